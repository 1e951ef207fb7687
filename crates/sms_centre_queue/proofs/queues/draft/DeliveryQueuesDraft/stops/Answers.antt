use Rattle.std.proofs.Common.{◌∙◌}
use Rattle.sms_centre_queue.proofs.queues.Finding.{scan_finds}
use Rattle.sms_centre_queue.proofs.queues.draft.DeliveryQueuesDraft.stops.Goals as goal

pub returns : goal.returns
returns c g links w represents = c.in_ok-stops.ensures ∙ scan_finds c.args.purpose.now g links w c.args.self.now represents
