use Rattle.sms_base.proofs.Msisdns.{own_is_address}
use Rattle.sms_centre_queue.proofs.queues.RepresentedMoves.{given_done}
use Rattle.sms_centre_queue.proofs.queues.draft.DeliveryQueuesDraft.give.Goals as goal

pub returns : goal.returns
returns c =
    given_done c.args.number c.args.now c.args.queued c.in_ok-placed.placed c.give_one-done.new.placed c.args.self.now c.take_out.new.self c.give_one-done.new.self c.put_back.new.self
    c.give_one-done.result (own_is_address c.args.number c.take_out.ensures.number) c.give_one-done.ensures.octet c.in_ok-placed.ensures.taken c.give_one-done.ensures.noted c.give_one-done.ensures.placed c.in_ok-put_back.ensures
