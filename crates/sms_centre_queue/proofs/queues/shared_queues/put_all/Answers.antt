use Rattle.std.proofs.Common.{◌∙◌, nat_eq}
use Rattle.std.specs.Map.{lookup}
use Rattle.sms_centre_queue.proofs.queues.MovedMaps.{put_beside}
use Rattle.sms_centre_queue.proofs.queues.shared_queues.put_all.Goals as goal

pub returns-in-Ok : goal.returns-in-Ok
returns-in-Ok c key = c.in-Ok.ensures.inserts.0 key ∙ put_beside (λ q. lookup (nat_eq q) c.args.queues.now.entries) c.args.touched.entries key c.len-len.ensures.unique
