use Rattle.std.proofs.Common.{◌≡◌, drop}
use Rattle.std.specs.List.{list_all}
use Rattle.sms_centre_rows.specs.conditions.MessageTest.{is_part}
use Rattle.sms_centre_rows.proofs.conditions.message_rows.are_parts.Given as goal

abbrev pub invariant-loop-part : goal.invariant-loop-part
invariant-loop-part l = list_all (is_part l.messages.rows) (drop l.part-index l.parts) ≡ list_all (is_part l.messages.rows) l.parts
