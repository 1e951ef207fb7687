use Rattle.sms_rows.specs.table.Table.{put}
use Rattle.sms_centre_rows.specs.waiting.Keys.{queued_key}
use Rattle.sms_centre_queue.proofs.queues.RepresentedMoves.{waits_done}
use Rattle.sms_centre_queue.proofs.queues.draft.DeliveryQueuesDraft.put.Goals as goal

pub returns : goal.returns
returns c =
    waits_done c.args.number (put queued_key c.args.queued) c.in_ok-placed.placed c.put-done.new.self c.args.self.now c.take_out.new.self c.put_back.new.self c.put-done.result c.take_out.ensures.number
    c.in_ok-placed.ensures.taken c.put-done.ensures c.in_ok-put_back.ensures
