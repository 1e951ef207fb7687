use Rattle.std.proofs.Common.{◌≡◌, ℕ, drop, None}
use Rattle.sms_centre_queue.specs.queues.Queues.{under}
use Rattle.sms_centre_queue.specs.queues.Recovering.{restored_all}
use Rattle.sms_centre_queue.proofs.queues.recover.queues_of.Given as goal

abbrev pub invariant-loop-handset : goal.invariant-loop-handset
invariant-loop-handset l =
    (key : ℕ) → restored_all key (drop l.handset-index l.handsets) l.references.rows (under key l.queues.entries) ≡ restored_all key l.handsets l.references.rows None
