use Rattle.std.proofs.Common.{◌≡◌, ℕ, None}
use Rattle.sms_centre_queue.specs.queues.Plan.{placed_all}
use Rattle.sms_centre_queue.specs.queues.Queues.{under}
use Rattle.sms_centre_queue.proofs.queues.draft.copies.Given as goal

abbrev pub invariant-loop-key : goal.invariant-loop-key
invariant-loop-key l = (k : ℕ) → placed_all k l.key-iterator (under k l.copy.entries) ≡ placed_all k l.queues.entries None
