use Rattle.std.specs.Prelude.{◌++◌}
use Rattle.sms_rows.specs.table.Keys.{digits_key}
use Rattle.sms_centre_rows.specs.waiting.Links.{to_handset}
use Rattle.sms_centre_queue.specs.queues.Queues.{counted, link_count_now, link_place_now}
use Rattle.sms_centre_queue.proofs.queues.RepresentedMoves.{put_noted}
use Rattle.sms_centre_queue.proofs.queues.draft.DeliveryQueuesDraft.put_link.Goals as goal

pub returns : goal.returns
returns c =
    put_noted (digits_key c.args.number) c.note_link-noted.new.placed (record c.args.placed { link_place = link_place_now c.args.placed.link_place c.args.self.now.link_count }) c.note_link-noted.new.self
    (counted (link_count_now c.args.placed.link_place c.args.self.now.link_count) (c.args.self.now.frames ++ to_handset c.args.number c.args.frames) c.args.self.now) c.put_back.new.self c.note_link-noted.result
    c.note_link-noted.ensures.placed c.note_link-noted.ensures.sent c.in_ok-put_back.ensures
