use Rattle.sms_rows.specs.table.Keys.{pair_key}
use Rattle.sms_rows.specs.table.Table.{without}
use Rattle.sms_centre_rows.specs.waiting.Keys.{queued_key}
use Rattle.sms_centre_queue.proofs.queues.RepresentedMoves.{waits_done}
use Rattle.sms_centre_queue.proofs.queues.draft.DeliveryQueuesDraft.remove.Goals as goal

pub returns : goal.returns
returns c =
    waits_done c.args.number (without queued_key (pair_key c.args.id c.args.part)) c.in_ok-placed.placed c.remove-done.new.self c.args.self.now c.take_out.new.self c.put_back.new.self c.remove-done.result c.take_out.ensures.number
    c.in_ok-placed.ensures.taken c.remove-done.ensures c.in_ok-put_back.ensures
