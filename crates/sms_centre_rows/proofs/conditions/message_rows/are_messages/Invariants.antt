use Rattle.std.proofs.Common.{◌≡◌, drop}
use Rattle.std.specs.List.{list_all}
use Rattle.sms_centre_rows.specs.conditions.MessageTest.{is_message}
use Rattle.sms_centre_rows.proofs.conditions.message_rows.are_messages.Given as goal

abbrev pub invariant-loop-message : goal.invariant-loop-message
invariant-loop-message l = list_all (is_message l.parts.rows l.priorities.rows) (drop l.message-index l.messages) ≡ list_all (is_message l.parts.rows l.priorities.rows) l.messages
