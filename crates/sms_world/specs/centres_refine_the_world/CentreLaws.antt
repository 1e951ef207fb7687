-- What is proved of a centre that sees the world: it begins, it restarts, and others leave what it sees.
use Rattle.sms_base.specs.TimeStamp.{IsMoment}
use Rattle.std.specs.Prelude.{◌≡◌, ℕ, max, List, [], ◌∷◌, Bool, Some, None, true, false}
use Rattle.sms_centre_spec.specs.CentreEvent.{happened, recovered, started}
use Rattle.sms_centre_spec.specs.SoundCore.{IsSoundCore}
use Rattle.sms_centre_spec.specs.declared.event.CentreEvent.{CentreEvent}
use Rattle.sms_centre_spec.specs.declared.event.CentreEvent.TheVariants.{Bound, Cancel, DeliverAnswered, LinkDown, LinkUp, Ordered, Query, Submit, Tick}
use Rattle.sms_centre_spec.specs.declared.event.CentreEvent.TheVariants.{Unbound}
use Rattle.sms_centre_spec.specs.declared.order.Order.TheVariants.{Retry, Delete}
use Rattle.smpp_pdu.specs.declared.cancel.CancelSm.{CancelSm}
use Rattle.smpp_pdu.specs.declared.message.Message.{Message}
use Rattle.smpp_pdu.specs.declared.query.QuerySm.{QuerySm}
use Rattle.sms_centre_rows.specs.waiting.SoundAllocations.{IsNumber}
use Rattle.sms_centre_spec.specs.Draft.{Core, Draft, Store, core_of, draft_of, parts_in, reports_in, rows_of, with_part_at, with_report_at}
use Rattle.sms_centre_rows.specs.messages.Messages.{part_key}
use Rattle.sms_centre_rows.specs.declared.messages.part.PartRow.{PartRow}
use Rattle.sms_centre_rows.specs.reports.Reports.{is_status, report_key, report_of}
use Rattle.sms_centre_rows.specs.declared.reports.report.ReportRow.{ReportRow}
use Rattle.sms_rows.specs.table.Table.{Rises, row_at}
use Rattle.sms_centre_rows.specs.declared.waiting.progress.Progress.{Progress}
use Rattle.sms_centre_spec.specs.SoundRows.{first_rows}
use Rattle.sms_centre_spec.specs.declared.setup.Setup.{Setup}
use Rattle.sms_centre_rows.specs.reports.Receipts.{Session}
use Rattle.sms_centre_rows.specs.waiting.References.{handset_of}
use Rattle.sms_centre_spec.specs.Submitting.{reference_for}
use Rattle.sms_world_model.specs.References.{CanGive}
use Rattle.sms_world_model.specs.WorldStep.{Run, end, Offer, Step}
use Rattle.sms_world_model.specs.ScriptRun.{Cancelled, Event, IsPlayed, Submitted, Tick_centre, items}
use Rattle.sms_world_model.specs.Sides.{AllOfCentre, AllOfHandset}
use Rattle.sms_world_model.specs.World.{Allocation, Sent, World, empty, with_frames}
use Rattle.sms_world.specs.centres_refine_the_world.CentreRefinement.{CentreRefines, StoreRefines}

-- a new store's centre sees the empty world
abbrev pub FirstLaw : Type 0
FirstLaw =
    (setup : Setup) (handsets : List (List ℕ)) (sessions : List Session) → CentreRefines empty (draft_of (started (first_rows setup) handsets sessions)) empty

-- the centre between two events sees the world that its last event led to
abbrev pub NextLaw : Type 0
NextLaw = (b : World) (d : Draft) (w : World) → CentreRefines b d w → CentreRefines w (draft_of (core_of d)) w

-- A centre that stops behind the store call of an event, or between two, restarts with rows that show the world. It has any
-- handsets and sessions. Of the event none of the frames was sent there.
abbrev pub BackLaw : Type 0
BackLaw =
    (b : World) (bag : List Sent) (d : Draft) (handsets : List (List ℕ)) (sessions : List Session) (w : World) → CentreRefines b d w
    → CentreRefines (with_frames bag w) (draft_of (recovered (rows_of d.store) handsets sessions)) (with_frames bag w)

-- what a handset does, whole or stopped, leaves what the centre sees
abbrev pub HandsetLaw : Type 0
HandsetLaw =
    (h : List ℕ) (c : Core) (w : World) (m : ℕ) (b : Bool) (steps : List Step) → AllOfHandset h steps → CentreRefines w (draft_of c) w
    → CentreRefines (end w (items m b steps)) (draft_of c) (end w (items m b steps))

-- how far a part is, when it is tried next and how often it was, the world does not show. Whether it is done is another matter
abbrev pub PartFarLaw : Type 0
PartFarLaw =
    (p : PartRow) (q : Progress) (s : Store) (w : World) → row_at part_key (part_key p) (parts_in s) ≡ Some p → q.is_done ≡ p.progress.is_done
    → StoreRefines s w → StoreRefines (with_part_at p q s) w

-- nor of a status report; and of a receipt nothing but that there is one
abbrev pub ReportFarLaw : Type 0
ReportFarLaw =
    (r : ReportRow) (q : Progress) (s : Store) (w : World) → Rises report_key (reports_in s) → report_of r.id (reports_in s) ≡ Some r
    → (is_status r.kind ≡ true → q.is_done ≡ r.progress.is_done) → StoreRefines s w → StoreRefines (with_report_at r q s) w

-- ---- references

-- the next reference at a handset is one that the world may give there
abbrev pub NextReferenceLaw : Type 0
NextReferenceLaw =
    (number : List ℕ) (reference : ℕ) (c : Core) (w : World) → IsSoundCore c → CentreRefines w (draft_of c) w
    → reference_for (handset_of number c.rows.handsets) (draft_of c).store ≡ Some reference → CanGive w number reference c.moment

-- where there is no next, the world may give none
abbrev pub NoReferenceLaw : Type 0
NoReferenceLaw =
    (number : List ℕ) (c : Core) (w : World) → IsSoundCore c → CentreRefines w (draft_of c) w
    → reference_for (handset_of number c.rows.handsets) (draft_of c).store ≡ None → (reference : ℕ) → CanGive w number reference c.moment → ⊥

-- ---- events that have no step of their own

-- steps of the centre that offer what waits
abbrev pub AllOffer : List Step → Type 0
AllOffer [] = Unit {0}
AllOffer (s ∷ ss) = ((g : Allocation) × (tpdu : List ℕ) × (s ≡ Offer g tpdu)) × AllOffer ss

-- The event is offers alone, at whatever moment, and what they lead to the centre sees.
abbrev pub OffersOnly : ℕ → CentreEvent → Core → World → Type 0
OffersOnly m event c w = (steps : List Step) × (AllOffer steps × Run w (items m false steps) × CentreRefines w (happened event c) (end w (items m false steps)))

abbrev pub QueryLaw : Type 0
QueryLaw =
    (m : ℕ) (account : ℕ) (wanted : QuerySm) (c : Core) (w : World) → IsSoundCore c → CentreRefines w (draft_of c) w → OffersOnly m (Query account wanted) c w

-- a link to a handset that has a number is up or down from now on
abbrev pub LinkUpLaw : Type 0
LinkUpLaw =
    (m : ℕ) (handset : List ℕ) (c : Core) (w : World) → IsSoundCore c → IsNumber handset → CentreRefines w (draft_of c) w → OffersOnly m (LinkUp handset) c w

abbrev pub LinkDownLaw : Type 0
LinkDownLaw =
    (m : ℕ) (handset : List ℕ) (c : Core) (w : World) → IsSoundCore c → IsNumber handset → CentreRefines w (draft_of c) w → OffersOnly m (LinkDown handset) c w

-- an operator makes what waits of a message due
abbrev pub RetryLaw : Type 0
RetryLaw = (m : ℕ) (id : ℕ) (c : Core) (w : World) → IsSoundCore c → CentreRefines w (draft_of c) w → OffersOnly m (Ordered Retry id) c w

-- a session is bound
abbrev pub BoundLaw : Type 0
BoundLaw =
    (m : ℕ) (session account : ℕ) (receives : Bool) (c : Core) (w : World) → IsSoundCore c → CentreRefines w (draft_of c) w
    → OffersOnly m (Bound session account receives) c w

-- a session ends, and an application answers a receipt that was sent in its session
abbrev pub UnboundLaw : Type 0
UnboundLaw = (m : ℕ) (session : ℕ) (c : Core) (w : World) → IsSoundCore c → CentreRefines w (draft_of c) w → OffersOnly m (Unbound session) c w

abbrev pub AnsweredLaw : Type 0
AnsweredLaw =
    (m : ℕ) (session id : ℕ) (is_accepted : Bool) (c : Core) (w : World) → IsSoundCore c → CentreRefines w (draft_of c) w
    → OffersOnly m (DeliverAnswered session id is_accepted) c w

-- ---- events of a script

-- The event is steps of the centre as that event of a script may be, at its moment. The centre refines the world that they
-- lead to.
abbrev pub LeadsOn : ℕ → Event → CentreEvent → Core → World → Type 0
LeadsOn m played event c w =
    (steps : List Step) × (IsPlayed w played steps × AllOfCentre steps × Run w (items m false steps)
    × CentreRefines w (happened event c) (end w (items m false steps)))

-- an application submits
abbrev pub SubmitLaw : Type 0
SubmitLaw =
    (account : ℕ) (message : Message) (c : Core) (w : World) → IsSoundCore c → CentreRefines w (draft_of c) w
    → LeadsOn c.moment Submitted (Submit account message) c w

-- an application cancels
abbrev pub CancelLaw : Type 0
CancelLaw =
    (account : ℕ) (wanted : CancelSm) (c : Core) (w : World) → IsSoundCore c → CentreRefines w (draft_of c) w
    → LeadsOn c.moment Cancelled (Cancel account wanted) c w

-- an operator deletes a message
abbrev pub DeleteLaw : Type 0
DeleteLaw = (id : ℕ) (c : Core) (w : World) → IsSoundCore c → CentreRefines w (draft_of c) w → LeadsOn c.moment Cancelled (Ordered Delete id) c w

-- its timers are looked at, and time never turns back
abbrev pub TickLaw : Type 0
TickLaw =
    (now : ℕ) (c : Core) (w : World) → IsSoundCore c → IsMoment now → CentreRefines w (draft_of c) w → LeadsOn (max c.moment now) Tick_centre (Tick now) c w
