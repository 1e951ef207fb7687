use Rattle.std.proofs.Common.{◌∙◌, sym, ap}
use Rattle.sms_centre_queue.specs.queues.Plan.{relisted_all}
use Rattle.sms_centre_queue.specs.queues.Queues.{is_listed}
use Rattle.sms_centre_queue.proofs.queues.Relisting.{relisted_once}
use Rattle.sms_centre_queue.proofs.queues.shared_queues.relist.Goals as goal

pub returns : goal.returns
returns c key =
    sym (ap (λ es. relisted_all key es (is_listed key c.loop-key.index.entries)) c.in-None.ensures.steps.0) ∙ c.loop-key.invariant.0 key
    ∙ relisted_once key c.args.touched.now.entries (is_listed key c.args.index.now.entries) c.len-len.ensures.unique
