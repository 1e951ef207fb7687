use Rattle.std.proofs.Common.{ap}
use Rattle.sms_link.specs.LinkTurn.{taken}
use Rattle.sms_link.specs.declared.link.LinkOut.{LinkOut}
use Rattle.sms_centre_queue.proofs.queues.RepresentedMoves.{turn_ok}
use Rattle.sms_centre_queue.proofs.queues.draft.DeliveryQueuesDraft.take.Goals as goal

pub returns-in-Ok-clause-state : goal.returns-in-Ok-clause-state
returns-in-Ok-clause-state c =
    turn_ok c.args.number (λ l. taken c.args.frame.now l.near_end) c.in_ok-placed.placed c.take.new.self c.in-Ok.out.frames
    c.args.self.now c.take_out.new.self c.put_out.new.self c.put_out.result c.take_out.ensures.number c.in_ok-placed.ensures.taken c.in-Ok.ensures.state (ap (λ (o : LinkOut). o.frames) c.in-Ok.ensures.out) c.put_out.ensures.state
