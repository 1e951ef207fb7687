use Rattle.std.proofs.Common.{◌≡◌, ◌-◌}
use Rattle.sms_centre_rows.specs.waiting.References.{first_passing, is_free, next_reference}
use Rattle.sms_centre_queue.proofs.queue.delivery_queue.DeliveryQueue.next_reference.Given as goal

abbrev pub invariant-loop-turn : goal.invariant-loop-turn
invariant-loop-turn l =
    first_passing (is_free l.row l.self.waiting l.self.given l.now) (256 - l.turn) l.reference ≡ next_reference l.row l.self.waiting l.self.given l.now
