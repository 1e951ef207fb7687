use Rattle.std.proofs.Common.{◌≡◌, ℕ, ◌≤◌, length}
use Rattle.indexmap.specs.IndexMap.{spare}
use Rattle.sms_centre_queue.specs.queues.Plan.{relisted_all}
use Rattle.sms_centre_queue.specs.queues.Queues.{is_listed}
use Rattle.sms_centre_queue.proofs.queues.shared_queues.relist.Given as goal

abbrev pub invariant-loop-key : goal.invariant-loop-key
invariant-loop-key l =
    ((k : ℕ) → relisted_all k l.key-iterator (is_listed k l.index.entries) ≡ relisted_all k l.touched.entries (is_listed k l.initial.index.entries))
    × (length l.key-iterator ≤ spare l.index)
