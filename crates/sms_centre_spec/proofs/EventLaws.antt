-- What every event of a centre leaves of a sound centre, whatever it is told.
use Rattle.sms_base.specs.Among.{Among}
use Rattle.sms_centre_rows.specs.declared.reports.delivery.Delivery.{Delivery}
use Rattle.sms_centre_rows.specs.declared.waiting.handset_link.Sent.{Sent}
use Rattle.sms_centre_spec.specs.declared.event.CentreEvent.{CentreEvent}
use Rattle.sms_centre_spec.specs.declared.event.CentreEvent.TheVariants.{Submit, Query, Cancel, Bound, Unbound, DeliverAnswered, Frame, LinkUp, LinkDown, Ordered, Tick}
use Rattle.sms_centre_spec.specs.CentreEvent.{happened}
use Rattle.sms_centre_spec.specs.Draft.{Core, core_of}
use Rattle.sms_centre_spec.specs.Held.{SoundHeld}
use Rattle.sms_centre_spec.specs.Keeping.{Keeps}
use Rattle.sms_centre_spec.specs.SoundCore.{Brings, IsEvent, IsReceiptRow, IsSoundCore}
use Rattle.sms_centre_spec.proofs.PduFits.{event_gives}
use Rattle.sms_centre_spec.proofs.SoundEvents.{HasNumber, IsAfter, core_after, event_after}

has_number : (event : CentreEvent) → IsEvent event → HasNumber event
has_number (Submit account m) is = tt
has_number (Query account q) is = tt
has_number (Cancel account q) is = tt
has_number (Bound session account receives) is = tt
has_number (Unbound session) is = tt
has_number (DeliverAnswered session id b) is = tt
has_number (Frame handset octets tag) is = is.0
has_number (LinkUp handset) is = is
has_number (LinkDown handset) is = is
has_number (Ordered order id) is = tt
has_number (Tick now) is = tt

after : (event : CentreEvent) (c : Core) → IsSoundCore c → IsEvent event → IsAfter c (happened event c)
after event c s is = event_after event c s (has_number event is) (event_gives event c s is)

pub stays_sound : (event : CentreEvent) (c : Core) → IsSoundCore c → IsEvent event → IsSoundCore (core_of (happened event c))
stays_sound event c s is = core_after c (happened event c) (after event c s is)

pub keeps_rows : (event : CentreEvent) (c : Core) → IsSoundCore c → IsEvent event → Keeps c.rows (core_of (happened event c)).rows
keeps_rows event c s is = (after event c s is).store.1

pub keeps_apart : (event : CentreEvent) (c : Core) → IsSoundCore c → IsEvent event → SoundHeld (happened event c).store
keeps_apart event c s is = (after event c s is).store.0.consistent.held

pub sends_receipts : (event : CentreEvent) (c : Core) → IsSoundCore c → IsEvent event → (x : Delivery) → Among x (happened event c).bindings.deliveries → IsReceiptRow (core_of (happened event c)).rows x.id
sends_receipts event c s is = (after event c s is).sides.1.sent

pub sends_frames : (event : CentreEvent) (c : Core) → IsSoundCore c → IsEvent event → (f : Sent) → Among f (happened event c).links.frames → Brings f.handset f.frame.carried (core_of (happened event c)).rows
sends_frames event c s is = (after event c s is).sides.0.sent
