use Rattle.std.proofs.Common.{◌≡◌, take}
use Rattle.sms_store_memory.proofs.preparing.add_copies.Given as goal

abbrev pub invariant-loop-change : goal.invariant-loop-change
invariant-loop-change g l = l.copies ≡ take l.change-index l.changes
