use Rattle.sms_link.specs.LinkTurn.{begun}
use Rattle.sms_centre_queue.proofs.queues.RepresentedMoves.{turn_ok}
use Rattle.sms_centre_queue.proofs.queues.draft.DeliveryQueuesDraft.begin.Goals as goal

pub returns-in-Ok : goal.returns-in-Ok
returns-in-Ok c =
    turn_ok c.args.number (λ l. begun c.args.now c.args.reference c.args.tag c.args.unit.now l.near_end) c.in_ok-placed.placed c.begin.new.self c.in-Ok.frames
    c.args.self.now c.take_out.new.self c.put_link.new.self c.put_link.result c.take_out.ensures.number c.in_ok-placed.ensures.taken c.in-Ok.ensures.state c.in-Ok.ensures.frames c.put_link.ensures
