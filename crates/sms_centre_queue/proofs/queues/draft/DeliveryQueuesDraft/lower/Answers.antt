use Rattle.std.proofs.Common.{refl}
use Rattle.sms_centre_rows.specs.waiting.Links.{lowered}
use Rattle.sms_centre_queue.proofs.queues.RepresentedMoves.{link_ok}
use Rattle.sms_centre_queue.proofs.queues.draft.DeliveryQueuesDraft.lower.Goals as goal

pub returns : goal.returns
returns c =
    link_ok c.args.number lowered c.in_ok-placed.placed c.lower.new.self c.new-none.result c.args.self.now c.take_out.new.self c.put_link.new.self c.put_link.result c.take_out.ensures.number (λ l. refl)
    c.in_ok-placed.ensures.taken c.lower.ensures c.new-none.ensures c.put_link.ensures
