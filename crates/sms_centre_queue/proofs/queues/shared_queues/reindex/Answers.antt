use Rattle.std.proofs.Common.{◌∙◌, ap, is_some}
use Rattle.sms_centre_queue.specs.queues.Plan.{relisted}
use Rattle.sms_centre_queue.specs.queues.Queues.{under}
use Rattle.sms_centre_queue.proofs.queues.shared_queues.reindex.Goals as goal

pub returns : goal.returns
returns c key = c.relist.ensures key ∙ ap (λ o. relisted (under key c.args.touched.now.entries) (is_some o)) (c.use_reserve.ensures.entries key)
