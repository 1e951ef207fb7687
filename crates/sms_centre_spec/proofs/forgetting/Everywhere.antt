-- Every event does the same without the messages that go, but a query, a cancel or an order of one of them.
use Rattle.std.proofs.Common.{ℕ, Bool}
use Rattle.sms_centre_spec.specs.declared.event.CentreEvent.{CentreEvent}
use Rattle.sms_centre_spec.specs.declared.event.CentreEvent.TheVariants.{Submit, Query, Cancel, Bound, Unbound, DeliverAnswered, Frame, LinkUp, LinkDown, Ordered, Tick}
use Rattle.sms_centre_spec.specs.CentreEvent.{happened}
use Rattle.sms_centre_spec.specs.Draft.{Core}
use Rattle.sms_centre_spec.specs.SoundRows.{IsSound}
use Rattle.sms_centre_spec.specs.forgetting.Forgot.{AsksOther, CanForget, Same, core_without}
use Rattle.sms_centre_spec.proofs.forgetting.Answers.{answered_same}
use Rattle.sms_centre_spec.proofs.forgetting.Binds.{bound_same}
use Rattle.sms_centre_spec.proofs.forgetting.Frames.{down_same, frame_same, up_same}
use Rattle.sms_centre_spec.proofs.forgetting.Orders.{ordered_same}
use Rattle.sms_centre_spec.proofs.forgetting.Sessions.{cancel_same, query_same, unbound_same}
use Rattle.sms_centre_spec.proofs.forgetting.Submits.{submit_same}
use Rattle.sms_centre_spec.proofs.forgetting.Ticks.{tick_same}

pub event_same : (goes : ℕ → Bool) (event : CentreEvent) (c : Core) → IsSound c.rows → CanForget goes c → AsksOther goes event → Same goes (happened event (core_without goes c)) (happened event c)
event_same goes (Submit account m) c s can other = submit_same goes account m c s can
event_same goes (Query account q) c s can other = query_same goes account q c s can other
event_same goes (Cancel account q) c s can other = cancel_same goes account q c s can other
event_same goes (Bound session account receives) c s can other = bound_same goes session account receives c s can
event_same goes (Unbound session) c s can other = unbound_same goes session c s can
event_same goes (DeliverAnswered session id b) c s can other = answered_same goes session id b c s can
event_same goes (Frame handset octets tag) c s can other = frame_same goes handset octets tag c s can
event_same goes (LinkUp handset) c s can other = up_same goes handset c s can
event_same goes (LinkDown handset) c s can other = down_same goes handset c s can
event_same goes (Ordered order id) c s can other = ordered_same goes order id c s can other
event_same goes (Tick now) c s can other = tick_same goes now c s can
