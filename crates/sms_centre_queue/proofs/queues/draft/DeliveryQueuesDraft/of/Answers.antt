use Rattle.sms_centre_queue.proofs.queues.RepresentedPlans.{continued_begins}
use Rattle.sms_centre_queue.proofs.queues.draft.DeliveryQueuesDraft.of.Goals as goal

pub returns : goal.returns
returns c = λ handsets references links waiting stands.
    continued_begins handsets references links waiting c.args.base.now c.in_ok-pending.pending stands c.in_ok-pending.ensures
