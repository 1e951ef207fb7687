use Rattle.std.proofs.Common.{◌≡◌}
use Rattle.sms_centre_queue.specs.queue.FreeReferences.{passing_below}
use Rattle.sms_centre_rows.specs.waiting.References.{is_free}
use Rattle.sms_centre_queue.proofs.queue.delivery_queue.DeliveryQueue.has_free.Given as goal

abbrev pub invariant-loop-reference : goal.invariant-loop-reference
invariant-loop-reference l = l.free ≡ passing_below (is_free l.row l.self.waiting l.self.given l.now) l.reference
