use Rattle.std.proofs.Common.{◌≡◌, ◌++◌, drop}
use Rattle.sms_script.specs.report.ReportText.{lines, joined_line}
use Rattle.sms_script.proofs.report.put_all_joined.Given as goal

abbrev pub invariant-loop-row : goal.invariant-loop-row
invariant-loop-row l = l.out ++ lines joined_line (drop l.row-index l.joined) ≡ l.fn.out ++ lines joined_line l.joined
