-- The store of a centre is at the moment of the event: only a tick moves it.
use Rattle.std.proofs.Common.{◌≡◌, refl}
use Rattle.sms_centre_spec.specs.declared.event.CentreEvent.{CentreEvent}
use Rattle.sms_centre_spec.specs.declared.event.CentreEvent.TheVariants.{Bound, Cancel, DeliverAnswered, Frame, LinkDown, LinkUp, Ordered, Query, Submit, Tick, Unbound}
use Rattle.sms_centre_spec.specs.CentreEvent.{happened}
use Rattle.sms_centre_spec.specs.Draft.{Core}
use Rattle.sms_centre_spec.proofs.MomentStays.{IsAt, moment_stays}
use Rattle.sms_centre_spec.proofs.Stages.{AtStart}
use Rattle.sms_world.specs.centre_runs_are_steps.RunEvents.{moment_at}

starts : (event : CentreEvent) (c : Core) → AtStart (IsAt (moment_at event c)) event c
starts (Submit account m) c = refl
starts (Query account q) c = refl
starts (Cancel account q) c = refl
starts (Bound session account receives) c = refl
starts (Unbound session) c = refl
starts (DeliverAnswered session id is_accepted) c = refl
starts (Frame handset octets tag) c = refl
starts (LinkUp handset) c = refl
starts (LinkDown handset) c = refl
starts (Ordered order id) c = refl
starts (Tick now) c = refl

pub event_moment : (event : CentreEvent) (c : Core) → (happened event c).store.moment ≡ moment_at event c
event_moment event c = moment_stays (moment_at event c) event c (starts event c)
