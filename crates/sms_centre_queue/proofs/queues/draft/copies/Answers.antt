use Rattle.std.proofs.Common.{◌∙◌, sym, ap}
use Rattle.sms_centre_queue.specs.queues.Plan.{placed_all}
use Rattle.sms_centre_queue.specs.queues.Queues.{under}
use Rattle.sms_centre_queue.proofs.queues.Relisting.{placed_once}
use Rattle.sms_centre_queue.proofs.queues.draft.copies.Goals as goal

pub returns : goal.returns
returns c key =
    sym (ap (λ es. placed_all key es (under key c.loop-key.copy.entries)) c.in-None.ensures.steps.0) ∙ c.loop-key.invariant key
    ∙ placed_once key c.args.queues.now.entries c.len-len.ensures.unique
