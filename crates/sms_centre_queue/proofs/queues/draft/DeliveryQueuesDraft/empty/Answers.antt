use Rattle.std.proofs.Common.{refl}
use Rattle.sms_centre_rows.specs.waiting.Links.{emptied}
use Rattle.sms_centre_queue.proofs.queues.RepresentedMoves.{link_ok}
use Rattle.sms_centre_queue.proofs.queues.draft.DeliveryQueuesDraft.empty.Goals as goal

pub returns : goal.returns
returns c =
    link_ok c.args.number emptied c.in_ok-placed.placed c.empty.new.self c.new-none.result c.args.self.now c.take_out.new.self c.put_link.new.self c.put_link.result c.take_out.ensures.number (λ l. refl)
    c.in_ok-placed.ensures.taken c.empty.ensures c.new-none.ensures c.put_link.ensures
