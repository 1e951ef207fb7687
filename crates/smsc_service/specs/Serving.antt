-- What the centre does as the machine of a hub.
use Rattle.std.specs.Prelude.{◌≡◌, ◌⊎◌, nat_lt, List, [], Option, Some, None, if◌then◌else◌}
use Rattle.smpp_pdu.specs.declared.status.CommandStatus.{CommandStatus}
use Rattle.sms_centre_spec.specs.CentreEvent.{happened, recovered}
use Rattle.sms_centre_spec.specs.Draft.{Core, core_of}
use Rattle.sms_centre_spec.specs.declared.event.CentreEvent.{CentreEvent}
use Rattle.sms_centre_spec.specs.declared.event.CentreEvent.TheVariants.{Submit, Query, Cancel, Bound, Unbound, DeliverAnswered, Frame, LinkUp, LinkDown}
use Rattle.sms_centre_spec.specs.declared.event.CentreEvent.TheVariants.{Ordered, Tick as TickOf}
use Rattle.sms_centre_spec.specs.Requests.{cancel_refusal, octets_refusal, query_refusal}
use Rattle.sms_centre_spec.specs.declared.rows.Rows.{Rows}
use Rattle.sms_centre_spec.specs.forgetting.Forget.{forget}
use Rattle.sms_centre_spec.specs.declared.jobs.job.Job.{Job}
use Rattle.sms_centre_spec.specs.declared.jobs.reply.Reply.{Reply}
use Rattle.sms_keeper.specs.Fates.{MatchFate}
use Rattle.sms_keeper.specs.declared.machine.Fate.{Fate}
use Rattle.sms_keeper.specs.declared.machine.Fate.TheVariants.{Done, NoMemory, Refused}
use Rattle.sms_keeper.specs.declared.machine.Stimulus.{Stimulus}
use Rattle.sms_keeper.specs.declared.machine.Stimulus.TheVariants.{Job as JobOf, Tick, Own}
use Rattle.sms_keeper.specs.declared.outs.Out.{Out}
use Rattle.sms_centre.specs.Enrolling.{enrolled}
use Rattle.sms_centre.specs.state.CentreState.{Represents, CentreStateOf}
use Rattle.smsc_service.specs.declared.step_error.StepError.{StepError}
use Rattle.smsc_service.specs.declared.step_error.StepError.TheVariants.{NoMemory as NoPlan, NoBody, Store}
use Rattle.smsc_service.specs.declared.asking.SeatRequest.{SeatRequest}
use Rattle.smsc_service.specs.declared.asking.SeatRequest.TheVariants.{Event, Nothing, Taken, Forget, Enrol}
use Rattle.smsc_service.specs.declared.seat_map.SeatMap.{SeatMap}
use Rattle.smsc_service.specs.Asking.{asked_by}
use Rattle.smsc_service.specs.Seats.{Seats, followed, seats_in}
use Rattle.smsc_service.specs.BoundSession.{handsets_of, sessions_of}
use Rattle.smsc_service.specs.Replies.{failed_by, nothing_by, refused_by, taken_by, replies_to}

-- a centre between two events, and who sits where
pub record Serving : Type 0 where
  pub core : Core
  pub seats : Seats

-- The centre starts again with these rows: links are at their seats, and sessions are bound there.
abbrev pub restarted : Rows → Seats → Serving
restarted rows s = record { core = recovered rows (handsets_of s.links) (sessions_of rows.setup.accounts s.bound_sessions); seats = s }

-- what changes of who sits where; a hub has 32 seats
abbrev pub followed_by : Stimulus Job → Seats → Seats
followed_by (JobOf seat job) s = if nat_lt seat 32 then followed seat job s else s
followed_by (Tick now) s = s
followed_by (Own errand) s = s

-- ---- what is given

-- The outcome of the event decides: its replies, or the request has failed. Nobody hears of what is forgotten, or of an account that comes.
abbrev pub gives_for : SeatRequest → Fate → Serving → Stimulus Job → List (Out Reply)
gives_for (Event event) Done s stimulus = replies_to s.seats stimulus (happened event s.core)
gives_for (Event event) NoMemory s stimulus = failed_by stimulus
gives_for (Event event) Refused s stimulus = failed_by stimulus
gives_for Nothing fate s stimulus = nothing_by s.seats stimulus
gives_for Taken fate s stimulus = taken_by stimulus
gives_for (Forget before from most) Done s stimulus = []
gives_for (Forget before from most) NoMemory s stimulus = failed_by stimulus
gives_for (Forget before from most) Refused s stimulus = failed_by stimulus
gives_for (Enrol account) Done s stimulus = []
gives_for (Enrol account) NoMemory s stimulus = failed_by stimulus
gives_for (Enrol account) Refused s stimulus = failed_by stimulus

-- The status with which the request is refused whatever memory there is: a submit_sm by its octets, a question by what it asks about.
abbrev pub refusal_of : CentreEvent → Core → Option CommandStatus
refusal_of (Submit account message) c = octets_refusal account message c
refusal_of (Query account query) c = query_refusal account query c
refusal_of (Cancel account cancel) c = cancel_refusal account cancel c
refusal_of (Bound session account receives) c = None
refusal_of (Unbound session) c = None
refusal_of (DeliverAnswered session id is_accepted) c = None
refusal_of (Frame handset octets tag) c = None
refusal_of (LinkUp handset) c = None
refusal_of (LinkDown handset) c = None
refusal_of (Ordered order id) c = None
refusal_of (TickOf now) c = None

abbrev pub refusal_for : SeatRequest → Core → Option CommandStatus
refusal_for (Event event) c = refusal_of event c
refusal_for Nothing c = None
refusal_for Taken c = None
refusal_for (Forget before from most) c = None
refusal_for (Enrol account) c = None

-- Without memory such a request is still refused so; every other one has failed.
abbrev pub short_of : Option CommandStatus → Stimulus Job → List (Out Reply) → List (Out Reply)
short_of None stimulus outs = outs
short_of (Some status) stimulus outs = refused_by status stimulus

abbrev pub unless_refused : Fate → Option CommandStatus → Stimulus Job → List (Out Reply) → List (Out Reply)
unless_refused Done refusal stimulus outs = outs
unless_refused Refused refusal stimulus outs = outs
unless_refused NoMemory refusal stimulus outs = short_of refusal stimulus outs

abbrev pub outs_for : SeatRequest → Fate → Serving → Stimulus Job → List (Out Reply)
outs_for asked fate s stimulus = unless_refused fate (refusal_for asked s.core) stimulus (gives_for asked fate s stimulus)

abbrev pub gives : Serving → Stimulus Job → Fate → List (Out Reply)
gives s stimulus fate = outs_for (asked_by s.seats stimulus) fate s stimulus

-- ---- what it leads to

-- Want of memory changes nothing. After a refusal the centre starts again with its rows, and with the links and sessions that the job,
-- too, left so.
abbrev pub after_for : SeatRequest → Fate → Serving → Stimulus Job → Serving
after_for (Event event) Done s stimulus = record { core = core_of (happened event s.core); seats = followed_by stimulus s.seats }
after_for (Event event) NoMemory s stimulus = s
after_for (Event event) Refused s stimulus = restarted s.core.rows (followed_by stimulus s.seats)
after_for Nothing fate s stimulus = s
after_for Taken fate s stimulus = s
after_for (Forget before from most) Done s stimulus = record { core = core_of (forget before from most s.core); seats = s.seats }
after_for (Forget before from most) NoMemory s stimulus = s
after_for (Forget before from most) Refused s stimulus = restarted s.core.rows s.seats
after_for (Enrol account) Done s stimulus = record { core = enrolled account s.core; seats = s.seats }
after_for (Enrol account) NoMemory s stimulus = s
after_for (Enrol account) Refused s stimulus = restarted s.core.rows s.seats

abbrev pub after : Serving → Stimulus Job → Fate → Serving
after s stimulus fate = after_for (asked_by s.seats stimulus) fate s stimulus

-- ---- what represents it

-- the store holds its rows, and what memory has is that centre and those seats
pub record IsServing (held : Rows → Type 0) (centre_state : CentreStateOf) (seat_map : SeatMap) (s : Serving) : Type 0 where
  pub rows : held s.core.rows
  pub centre : Represents s.core centre_state
  pub seats : seats_in seat_map ≡ s.seats

-- the store holds its rows, or was closed; the centre starts again with them
pub record IsWaiting (held : Rows → Type 0) (closed : Type 0) (seat_map : SeatMap) (s : Serving) : Type 0 where
  pub rows : held s.core.rows ⊎ closed
  pub again : s ≡ restarted s.core.rows s.seats
  pub seats : seats_in seat_map ≡ s.seats

-- The outcome of a stimulus that asks this: what is given, and what is there after it, by its fate. After a refusal its group is refused.
abbrev pub Serves : (Rows → Type 0) → Type 0 → CentreStateOf → SeatMap → SeatRequest → Serving → Stimulus Job → Fate → List (Out Reply) → Type 0
Serves held left centre seat_map asked s stimulus fate outs =
    (outs ≡ gives_for asked fate s stimulus) × MatchFate fate (IsServing held centre seat_map (after_for asked fate s stimulus)) left

-- What is given and what is there then, where a step without memory is answered by its request.
abbrev pub IsStep : (Rows → Type 0) → Type 0 → CentreStateOf → SeatMap → SeatRequest → Serving → Stimulus Job → Fate → List (Out Reply) → Type 0
IsStep held left centre seat_map asked s stimulus fate outs =
    (outs ≡ outs_for asked fate s stimulus) × MatchFate fate (IsServing held centre seat_map (after_for asked fate s stimulus)) left

-- ---- what was not planned

-- For want of memory nothing changes; a refused read refuses the group.
abbrev pub GivesUp : StepError → Fate → Type 0
GivesUp NoPlan fate = fate ≡ NoMemory
GivesUp NoBody fate = fate ≡ Refused
GivesUp (Store error) fate = fate ≡ Refused
