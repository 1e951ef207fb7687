use Rattle.sms_centre_rows.specs.waiting.Waiting.{all_at_once}
use Rattle.sms_centre_queue.proofs.queues.RepresentedMoves.{waits_done}
use Rattle.sms_centre_queue.proofs.queues.draft.DeliveryQueuesDraft.due_at.Goals as goal

pub returns : goal.returns
returns c =
    waits_done c.args.number (all_at_once c.args.now) c.in_ok-placed.placed c.due_at-done.new.self c.args.self.now c.take_out.new.self c.put_back.new.self c.due_at-done.result c.take_out.ensures.number
    c.in_ok-placed.ensures.taken c.due_at-done.ensures c.in_ok-put_back.ensures
