use Rattle.std.proofs.Common.{refl}
use Rattle.sms_centre_queue.specs.queues.LinkOrder.{expected}
use Rattle.sms_centre_queue.proofs.queues.RepresentedMoves.{link_ok}
use Rattle.sms_centre_queue.proofs.queues.draft.DeliveryQueuesDraft.expect.Goals as goal

pub returns : goal.returns
returns c =
    link_ok c.args.number expected c.in_ok-placed.placed c.expect.new.self c.new-none.result c.args.self.now c.take_out.new.self c.put_link.new.self c.put_link.result c.take_out.ensures.number (λ l. refl)
    c.in_ok-placed.ensures.taken c.expect.ensures c.new-none.ensures c.put_link.ensures
