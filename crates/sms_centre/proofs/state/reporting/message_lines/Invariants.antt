use Rattle.std.proofs.Common.{◌≡◌, List, take}
use Rattle.sms_centre_messages.specs.message_index.MessageIndex.{Represents}
use Rattle.sms_centre_rows.specs.declared.messages.message.MessageRow.{MessageRow}
use Rattle.sms_centre_rows.specs.declared.messages.part.PartRow.{PartRow}
use Rattle.sms_centre_reports.specs.report_log.Reporting.{message_lines}
use Rattle.sms_centre.proofs.state.reporting.message_lines.Given as goal

abbrev pub invariant-loop-place : goal.invariant-loop-place
invariant-loop-place l = (ms : List MessageRow) (ps : List PartRow) → Represents l.messages ms ps → l.lines ≡ message_lines (take l.place ms)
