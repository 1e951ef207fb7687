-- Which steps of the world an event of the centre is.
use Rattle.std.specs.Prelude.{◌≡◌, ℕ, max, false, List, []}
use Rattle.sms_centre_spec.specs.CentreEvent.{happened, tag_of}
use Rattle.sms_centre_spec.specs.Draft.{Core, draft_of}
use Rattle.sms_centre_spec.specs.SoundCore.{IsEvent, IsSoundCore}
use Rattle.sms_centre_spec.specs.declared.event.CentreEvent.{CentreEvent}
use Rattle.sms_centre_spec.specs.declared.event.CentreEvent.TheVariants.{Bound, Cancel, DeliverAnswered, Frame, LinkDown, LinkUp, Ordered, Query, Submit, Tick}
use Rattle.sms_centre_spec.specs.declared.event.CentreEvent.TheVariants.{Unbound}
use Rattle.sms_centre_spec.specs.declared.order.Order.TheVariants.{Retry, Delete}
use Rattle.sms_world.specs.centre_runs_are_steps.Offered.{HasOffered}
use Rattle.sms_world_model.specs.WorldStep.{Run, end, Step}
use Rattle.sms_world_model.specs.ScriptRun.{Asked, Cancelled, Handed, IsPlayed, Submitted, Tick_centre, items}
use Rattle.sms_world_model.specs.Sides.{AllOfCentre}
use Rattle.sms_world_model.specs.World.{World}
use Rattle.sms_world.specs.centre_runs_are_steps.Handing.{IsHandedUp}
use Rattle.sms_world.specs.centres_refine_the_world.CentreLaws.{AllOffer}
use Rattle.sms_world.specs.centres_refine_the_world.CentreRefinement.{CentreRefines}

-- What applications ask for, a frame and a tick are events of a script; a frame is handed over by its number. Who is bound, which
-- links are up and what is due the world doesn't show: there only what waits is offered. An operator deletes as an application
-- cancels. The answer to a receipt is no step at all.
abbrev pub AreOfEvent : ℕ → CentreEvent → World → List Step → Type 0
AreOfEvent number (Submit account message) w steps = IsPlayed w Submitted steps
AreOfEvent number (Query account wanted) w steps = IsPlayed w Asked steps
AreOfEvent number (Cancel account wanted) w steps = IsPlayed w Cancelled steps
AreOfEvent number (Bound session account receives) w steps = AllOffer steps
AreOfEvent number (Unbound session) w steps = AllOffer steps
AreOfEvent number (DeliverAnswered session id is_accepted) w steps = steps ≡ []
AreOfEvent number (Frame handset octets tag) w steps = IsPlayed w (Handed number) steps
AreOfEvent number (LinkUp handset) w steps = AllOffer steps
AreOfEvent number (LinkDown handset) w steps = AllOffer steps
AreOfEvent number (Ordered Retry id) w steps = AllOffer steps
AreOfEvent number (Ordered Delete id) w steps = IsPlayed w Cancelled steps
AreOfEvent number (Tick now) w steps = IsPlayed w Tick_centre steps

-- the moment of an event: only a tick moves it, and never back
abbrev pub moment_at : CentreEvent → Core → ℕ
moment_at (Submit account message) c = c.moment
moment_at (Query account wanted) c = c.moment
moment_at (Cancel account wanted) c = c.moment
moment_at (Bound session account receives) c = c.moment
moment_at (Unbound session) c = c.moment
moment_at (DeliverAnswered session id is_accepted) c = c.moment
moment_at (Frame handset octets tag) c = c.moment
moment_at (LinkUp handset) c = c.moment
moment_at (LinkDown handset) c = c.moment
moment_at (Ordered order id) c = c.moment
moment_at (Tick now) c = max c.moment now

-- a frame that is handed over is one of the world
abbrev pub MayArrive : ℕ → CentreEvent → World → Type 0
MayArrive number (Submit account message) w = Unit {0}
MayArrive number (Query account wanted) w = Unit {0}
MayArrive number (Cancel account wanted) w = Unit {0}
MayArrive number (Bound session account receives) w = Unit {0}
MayArrive number (Unbound session) w = Unit {0}
MayArrive number (DeliverAnswered session id is_accepted) w = Unit {0}
MayArrive number (Frame handset octets tag) w = IsHandedUp handset number octets (tag_of tag) w
MayArrive number (LinkUp handset) w = Unit {0}
MayArrive number (LinkDown handset) w = Unit {0}
MayArrive number (Ordered order id) w = Unit {0}
MayArrive number (Tick now) w = Unit {0}

-- The event is steps of the centre, at its moment, and what they lead to the centre sees.
abbrev pub IsEventSteps : ℕ → CentreEvent → Core → World → Type 0
IsEventSteps number event c w =
    (steps : List Step)
    × ((AreOfEvent number event w steps × AllOfCentre steps) × Run w (items (moment_at event c) false steps)
    × CentreRefines w (happened event c) (end w (items (moment_at event c) false steps)))

-- A sound centre that refines the world and has offered what it could: every event is steps.
abbrev pub EventLaw : Type 0
EventLaw =
    (number : ℕ) (event : CentreEvent) (c : Core) (w : World) → IsSoundCore c → HasOffered c → IsEvent event → MayArrive number event w
    → CentreRefines w (draft_of c) w
    → IsEventSteps number event c w
