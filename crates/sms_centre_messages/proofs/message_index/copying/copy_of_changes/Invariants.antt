use Rattle.std.proofs.Common.{◌≡◌, take}
use Rattle.sms_centre_messages.proofs.message_index.copying.copy_of_changes.Given as goal

abbrev pub invariant-loop-change : goal.invariant-loop-change
invariant-loop-change l = l.copies ≡ take l.change-index l.changes
