use Rattle.std.proofs.Common.{◌≡◌, ◌++◌, drop}
use Rattle.sms_script.specs.report.ReportText.{lines, accepted_line}
use Rattle.sms_script.proofs.report.put_all_accepted.Given as goal

abbrev pub invariant-loop-row : goal.invariant-loop-row
invariant-loop-row l = l.out ++ lines accepted_line (drop l.row-index l.accepted) ≡ l.fn.out ++ lines accepted_line l.accepted
