use Rattle.sms_centre_rows.specs.waiting.Waiting.{withdrawn}
use Rattle.sms_centre_queue.proofs.queues.RepresentedMoves.{waits_done}
use Rattle.sms_centre_queue.proofs.queues.draft.DeliveryQueuesDraft.withdraw.Goals as goal

pub returns : goal.returns
returns c =
    waits_done c.args.number (withdrawn c.args.id) c.in_ok-placed.placed c.withdraw-done.new.self c.args.self.now c.take_out.new.self c.put_back.new.self c.withdraw-done.result c.take_out.ensures.number
    c.in_ok-placed.ensures.taken c.withdraw-done.ensures c.in_ok-put_back.ensures
