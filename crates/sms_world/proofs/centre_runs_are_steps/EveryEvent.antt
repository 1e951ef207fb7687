-- Each event of the centre, as steps.
use Rattle.std.proofs.Common.{[], refl}
use Rattle.sms_centre_spec.specs.declared.event.CentreEvent.TheVariants.{Bound, Cancel, DeliverAnswered, Frame, LinkDown, LinkUp, Ordered, Query, Submit, Tick, Unbound}
use Rattle.sms_centre_spec.specs.declared.order.Order.TheVariants.{Retry, Delete}
use Rattle.sms_world_model.specs.ScriptRun.{Handed}
use Rattle.sms_world.proofs.centres_refine_the_world.Cancelling.{cancel_event, delete_event}
use Rattle.sms_world.proofs.centres_refine_the_world.Playing.{offers_follow}
use Rattle.sms_world.proofs.centres_refine_the_world.QuietEvents.{down_event, retry_event, up_event}
use Rattle.sms_world.proofs.centres_refine_the_world.SessionsBound.{bound_event}
use Rattle.sms_world.proofs.centres_refine_the_world.SessionsChange.{unbound_event}
use Rattle.sms_world.proofs.centres_refine_the_world.Submits.{submit_event}
use Rattle.sms_world.proofs.centres_refine_the_world.Ticks.{tick_event}
use Rattle.sms_world.proofs.centre_runs_are_steps.FrameEvents.{frame_event}
use Rattle.sms_world.specs.centre_runs_are_steps.RunEvents.{EventLaw}
use Rattle.sms_world.proofs.centre_runs_are_steps.NoSteps.{answered_still, query_still}

pub every_event : EventLaw
every_event number (Submit account message) c w sound k is may s =
    let x = submit_event account message c w sound s in (x.0, ((x.1.0, x.1.1), x.1.2, x.1.3))
every_event number (Query account wanted) c w sound k is may s = ([], ((refl, tt), tt, query_still account wanted c w k s))
every_event number (Cancel account wanted) c w sound k is may s =
    let x = cancel_event account wanted c w sound s in (x.0, ((x.1.0, x.1.1), x.1.2, x.1.3))
every_event number (Bound session account receives) c w sound k is may s =
    let x = bound_event c.moment session account receives c w sound s in (x.0, ((x.1.0, (offers_follow (Handed number) (λ y z. z) x.0 x.1.0).1), x.1.1, x.1.2))
every_event number (Unbound session) c w sound k is may s =
    let x = unbound_event c.moment session c w sound s in (x.0, ((x.1.0, (offers_follow (Handed number) (λ y z. z) x.0 x.1.0).1), x.1.1, x.1.2))
every_event number (DeliverAnswered session id is_accepted) c w sound k is may s = ([], ((refl, tt), tt, answered_still session id is_accepted c w sound k s))
every_event number (Frame handset octets tag) c w sound k is may s =
    let x = frame_event number handset octets tag c w sound is.0 is.1 s may in (x.0, ((x.1.0, x.1.1), x.1.2, x.1.3))
every_event number (LinkUp handset) c w sound k is may s =
    let x = up_event c.moment handset c w sound is s in (x.0, ((x.1.0, (offers_follow (Handed number) (λ y z. z) x.0 x.1.0).1), x.1.1, x.1.2))
every_event number (LinkDown handset) c w sound k is may s =
    let x = down_event c.moment handset c w sound is s in (x.0, ((x.1.0, (offers_follow (Handed number) (λ y z. z) x.0 x.1.0).1), x.1.1, x.1.2))
every_event number (Ordered Retry id) c w sound k is may s =
    let x = retry_event c.moment id c w sound s in (x.0, ((x.1.0, (offers_follow (Handed number) (λ y z. z) x.0 x.1.0).1), x.1.1, x.1.2))
every_event number (Ordered Delete id) c w sound k is may s =
    let x = delete_event id c w sound s in (x.0, ((x.1.0, x.1.1), x.1.2, x.1.3))
every_event number (Tick now) c w sound k is may s =
    let x = tick_event now c w sound is s in (x.0, ((x.1.0, x.1.1), x.1.2, x.1.3))
