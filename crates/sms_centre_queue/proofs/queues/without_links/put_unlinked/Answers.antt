use Rattle.std.proofs.Common.{◌∙◌, sym, ap}
use Rattle.sms_centre_queue.specs.queues.Queues.{under}
use Rattle.sms_centre_queue.specs.queues.Unlinked.{unlinked_all}
use Rattle.sms_centre_queue.proofs.queues.Unlinking.{unlinked_once}
use Rattle.sms_centre_queue.proofs.queues.without_links.put_unlinked.Goals as goal

pub returns : goal.returns
returns c key =
    sym (ap (λ es. unlinked_all key es (under key c.loop-key.out.entries)) c.in-None.ensures.steps.0) ∙ c.loop-key.invariant key
    ∙ unlinked_once key c.args.queues.now.entries (under key c.args.out.now.entries) c.len-len.ensures.unique
