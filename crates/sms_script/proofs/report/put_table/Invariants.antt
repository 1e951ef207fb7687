use Rattle.std.proofs.Common.{◌≡◌, ◌++◌, drop}
use Rattle.sms_script.specs.report.ReportText.{lines, message_line}
use Rattle.sms_script.proofs.report.put_table.Given as goal

abbrev pub invariant-loop-message : goal.invariant-loop-message
invariant-loop-message l = l.out ++ lines message_line (drop l.message-index l.table) ≡ l.fn.out ++ lines message_line l.table
