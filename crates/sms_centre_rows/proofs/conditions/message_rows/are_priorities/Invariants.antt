use Rattle.std.proofs.Common.{◌≡◌, drop}
use Rattle.std.specs.List.{list_all}
use Rattle.sms_centre_rows.specs.conditions.MessageTest.{is_priority}
use Rattle.sms_centre_rows.proofs.conditions.message_rows.are_priorities.Given as goal

abbrev pub invariant-loop-priority : goal.invariant-loop-priority
invariant-loop-priority l = list_all (is_priority l.messages.rows) (drop l.priority-index l.priorities) ≡ list_all (is_priority l.messages.rows) l.priorities
