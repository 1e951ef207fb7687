use Rattle.std.proofs.Common.{refl}
use Rattle.sms_centre_rows.specs.waiting.Links.{raised}
use Rattle.sms_centre_queue.proofs.queues.RepresentedMoves.{link_ok}
use Rattle.sms_centre_queue.proofs.queues.draft.DeliveryQueuesDraft.raise.Goals as goal

pub returns : goal.returns
returns c =
    link_ok c.args.number raised c.in_ok-placed.placed c.raise.new.self c.new-none.result c.args.self.now c.take_out.new.self c.put_link.new.self c.put_link.result c.take_out.ensures.number (λ l. refl)
    c.in_ok-placed.ensures.taken c.raise.ensures c.new-none.ensures c.put_link.ensures
