use Rattle.sms_centre_rows.specs.waiting.References.{is_free}
use Rattle.sms_centre_queue.proofs.queue.FreeCounted.{below_next}
use Rattle.sms_centre_queue.proofs.queue.delivery_queue.DeliveryQueue.has_free.Goals as goal

pub loop-reference-preserved : goal.loop-reference-preserved
loop-reference-preserved c =
    let l = c.loop-reference in
    below_next (is_free c.args.row.now c.args.self.now.waiting c.args.self.now.given c.args.now) l.reference l.free c.from-free.result c.is_free-is_free.result
    c.is_free-is_free.ensures c.from-free.ensures l.invariant
