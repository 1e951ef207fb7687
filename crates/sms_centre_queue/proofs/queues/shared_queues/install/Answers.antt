use Rattle.std.proofs.Common.{◌∙◌, ap}
use Rattle.std.specs.Option.{option_or}
use Rattle.sms_centre_queue.specs.queues.Queues.{under}
use Rattle.sms_centre_queue.proofs.queues.shared_queues.install.Goals as goal

pub returns : goal.returns
returns c key = c.put_all.ensures key ∙ ap (λ o. option_or (under key c.args.touched.entries) o) (c.use_reserve.ensures.entries key)
