-- One run of the world through all events of a script. Each event is steps of the world, and each play state on the way shows the world there.
use Rattle.sms_script.specs.declared.event.Act.{Act}
use Rattle.sms_script.specs.declared.event.Act.TheVariants.{Submit, Query, Cancel, Write, Delete, Discard, Deliver, Tick}
use Rattle.sms_script.specs.declared.event.EventSide.{EventSide}
use Rattle.sms_script.specs.declared.event.EventSide.TheVariants.{Centre, Handset}
use Rattle.sms_world_model.specs.ScriptRun.{Asked, Cancelled, Event, Handed, Removed, Submitted, Tick_centre, Tick_handset, Wrote, After, Before, Happening}
use Rattle.sms_world_model.specs.ScriptRun.{Restarted, Went, Whole as WentWhole, Belongs, happened}
use Rattle.std.specs.Prelude.{ℕ, max, List, [], ◌+◌, ◌↔◌, ◌∷◌, ◌≡◌, Ok, true}
use Rattle.sms_script.specs.declared.event.StopPoint.{StopPoint}
use Rattle.sms_script.specs.declared.event.StopPoint.TheVariants.{Before as StopBefore, After as StopAfter}
use Rattle.sms_script.specs.declared.event.WorldEvent.{WorldEvent}
use Rattle.sms_script.specs.declared.event.WorldEvent.TheVariants.{Whole, Stopped, Restart}
use Rattle.sms_base.specs.Among.{Among}
use Rattle.sms_centre_spec.specs.MessageNumbers.{next_number}
use Rattle.sms_play.specs.PlayState.{PlayState}
use Rattle.sms_script.specs.declared.report.answers.Answered.TheVariants.{Accepted}
use Rattle.sms_world_model.specs.References.{Ticket}
use Rattle.sms_world_model.specs.WorldStep.{Step, Submit as SubmitStep, Run, end}
use Rattle.sms_world_model.specs.Submission.{Submission}
use Rattle.sms_world_model.specs.Premises.{SubmitsFresh, HandsTimely}
use Rattle.sms_world_model.specs.World.{State, IsRecorded, World}
use Rattle.sms_play.specs.PlayedEvent.{played}
use Rattle.sms_play.specs.Premises.{is_fresh_event, is_timely_event}
use Rattle.sms_world.specs.headline.Claims.{DeliversReceipts}
pub use Rattle.sms_world.specs.headline.RequestClaims.{IsAnswered}
use Rattle.sms_world.specs.headline.RequestClaims.{RequestsAreTrue}
use Rattle.sms_world.specs.headline.SeenPlay.{SeenWorld}

-- ---- which event of the world it is

abbrev pub tick_of : EventSide → Event
tick_of Centre = Tick_centre
tick_of (Handset number) = Tick_handset

abbrev pub event_of : Act → Event
event_of (Submit s) = Submitted
event_of (Query name id) = Asked
event_of (Cancel name id) = Cancelled
event_of (Write handset to report text) = Wrote
event_of (Delete handset entry) = Removed
event_of (Discard handset entry) = Removed
event_of (Deliver number) = Handed number
event_of (Tick side now) = tick_of side

-- ---- when: only a tick of the centre moves its time, and never back

abbrev pub side_moment : EventSide → ℕ → ℕ → ℕ
side_moment Centre now moment = max moment now
side_moment (Handset number) now moment = moment

abbrev pub act_moment : Act → ℕ → ℕ
act_moment (Submit s) moment = moment
act_moment (Query name id) moment = moment
act_moment (Cancel name id) moment = moment
act_moment (Write handset to report text) moment = moment
act_moment (Delete handset entry) moment = moment
act_moment (Discard handset entry) moment = moment
act_moment (Deliver number) moment = moment
act_moment (Tick side now) moment = side_moment side now moment

-- ---- how it went

abbrev pub went_of : StopPoint → Went
went_of StopBefore = Before
went_of StopAfter = After

abbrev pub happening_of : WorldEvent → ℕ → Happening
happening_of (Whole act) moment = record { event = event_of act; went = WentWhole; moment = act_moment act moment }
happening_of (Stopped stop act) moment = record { event = event_of act; went = went_of stop; moment = act_moment act moment }
happening_of (Restart side) moment = record { event = Restarted; went = WentWhole; moment = moment }

-- ---- what applications submit

-- a message of that number is taken in among these steps
abbrev pub TakesIn : List Step → ℕ → Type 0
TakesIn steps id = (u : Submission) × (tickets : List Ticket) × (Among (SubmitStep u tickets) steps × (u.id ≡ id))

-- A submit_sm is taken in as the message of a number exactly where it is answered with that number.
abbrev pub SubmitsAsAnswered : ℕ → WorldEvent → PlayState → List Step → PlayState → Type 0
SubmitsAsAnswered number (Whole (Submit s)) c steps d = (id : ℕ) → IsAnswered number c d (Accepted id) ↔ TakesIn steps id
SubmitsAsAnswered number _ c steps d = Unit {0}

-- ---- under which number

-- a message of that number is in the table, and none was
abbrev pub IsEntered : World → World → ℕ → Type 0
IsEntered before after id =
    ((u : Submission) × ((state : State) × IsRecorded after.table id u state))
    × ((u : Submission) (state : State) → IsRecorded before.table id u state → ⊥)

-- a message that came has the next number of the rows
abbrev pub EntersNext : PlayState → World → World → Type 0
EntersNext c before after = (id : ℕ) → IsEntered before after id → id ≡ next_number c.centre.rows

-- ---- the premises, in the world

-- the frame that the event hands over is timely
abbrev pub IsTimelyThere : WorldEvent → PlayState → World → Type 0
IsTimelyThere e c w = HandsTimely w (happening_of e c.centre.moment).event

-- each submission among the steps is fresh
abbrev pub AreFreshThere : WorldEvent → PlayState → World → List Step → Type 0
AreFreshThere e c w steps = (x : Step) → Among x steps → SubmitsFresh w (happening_of e c.centre.moment).moment x

-- ---- one event

-- The event leads from a play state, which shows the world `w`, to the next, and is these steps of the world. The event is such as it
-- may be (`Belongs`), and each of the steps is possible where it happens (`Run`).
pub record IsEventRun (number : ℕ) (e : WorldEvent) (c : PlayState) (w : World) (steps : List Step) (next : PlayState) : Type 0 where
  pub is : played number e c ≡ Ok next
  pub belongs : Belongs w (happening_of e c.centre.moment) (happening_of e c.centre.moment).went steps
  pub run : Run w (happened (happening_of e c.centre.moment) steps)
  pub submits : SubmitsAsAnswered number e c steps next
  -- what a query_sm finds is true, and a cancel_sm cancels what it says
  pub requests : RequestsAreTrue number e c next
  pub numbers : EntersNext c w (end w (happened (happening_of e c.centre.moment) steps))
  -- each deliver_sm that is sent is of a receipt that is listed, and goes to the account of its message
  pub delivers : DeliversReceipts number e c
  -- what is decided on play states is what the world says: each frame that is handed over is timely, and each submission fresh
  pub timely : (is_timely_event e c ≡ true) ↔ IsTimelyThere e c w
  pub fresh : (is_fresh_event c next ≡ true) ↔ AreFreshThere e c w steps

abbrev pub world_after : World → WorldEvent → PlayState → List Step → World
world_after w e c steps = end w (happened (happening_of e c.centre.moment) steps)

-- ---- all of them, from that world on

abbrev pub Runs : ℕ → List WorldEvent → PlayState → World → PlayState → Type 0
Runs number [] c w last = SeenWorld c w × (c ≡ last)
Runs number (e ∷ es) c w last =
    SeenWorld c w
    × ((next : PlayState) × (steps : List Step) × (IsEventRun number e c w steps next × Runs (number + 1) es next (world_after w e c steps) last))
