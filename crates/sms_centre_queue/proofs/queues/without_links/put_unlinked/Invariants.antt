use Rattle.std.proofs.Common.{◌≡◌, ℕ}
use Rattle.sms_centre_queue.specs.queues.Queues.{under}
use Rattle.sms_centre_queue.specs.queues.Unlinked.{unlinked_all}
use Rattle.sms_centre_queue.proofs.queues.without_links.put_unlinked.Given as goal

abbrev pub invariant-loop-key : goal.invariant-loop-key
invariant-loop-key l = (k : ℕ) → unlinked_all k l.key-iterator (under k l.out.entries) ≡ unlinked_all k l.queues.entries (under k l.initial.out.entries)
