use Rattle.std.proofs.Common.{◌≡◌, ◌++◌, drop}
use Rattle.sms_script.specs.report.ReportText.{lines, outbox_line}
use Rattle.sms_script.proofs.report.put_outboxes.Given as goal

abbrev pub invariant-loop-entry : goal.invariant-loop-entry
invariant-loop-entry l = l.out ++ lines outbox_line (drop l.entry-index l.entries) ≡ l.fn.out ++ lines outbox_line l.entries
