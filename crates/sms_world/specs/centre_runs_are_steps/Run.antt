-- A centre's course: its events, whole or stopped behind the store call, its restarts, and what handsets do between them. Whatever
-- happens, it is steps of the world.
use Rattle.std.specs.Prelude.{◌≡◌, ℕ, List, [], ◌∷◌, Bool, true, false}
use Rattle.sms_base.specs.Among.{Among}
use Rattle.sms_centre_rows.specs.reports.Receipts.{Session, session_key}
use Rattle.sms_rows.specs.table.Table.{Rises}
use Rattle.sms_centre_rows.specs.waiting.SoundAllocations.{IsNumber}
use Rattle.sms_centre_spec.specs.CentreEvent.{happened, recovered, started}
use Rattle.sms_centre_spec.specs.Draft.{Core, core_of, draft_of, rows_of}
use Rattle.sms_centre_spec.specs.SoundCore.{AreDifferent, IsEvent, IsSession, IsSoundCore}
use Rattle.sms_centre_spec.specs.SoundRows.{IsSetup, first_rows}
use Rattle.sms_centre_spec.specs.declared.event.CentreEvent.{CentreEvent}
use Rattle.sms_centre_spec.specs.declared.event.CentreEvent.TheVariants.{Bound, Cancel, DeliverAnswered, Frame, LinkDown, LinkUp, Ordered, Query, Submit, Tick}
use Rattle.sms_centre_spec.specs.declared.event.CentreEvent.TheVariants.{Unbound}
use Rattle.sms_centre_spec.specs.declared.order.Order.TheVariants.{Retry, Delete}
use Rattle.sms_centre_spec.specs.declared.rows.Rows.{Rows}
use Rattle.sms_centre_spec.specs.declared.setup.Setup.{Setup}
use Rattle.sms_world.specs.centre_runs_are_steps.Offered.{HasOffered}
use Rattle.sms_world_model.specs.WorldStep.{Run, end, Step}
use Rattle.sms_world_model.specs.ScriptRun.{items}
use Rattle.sms_world_model.specs.Sides.{AllOfCentre, AllOfHandset}
use Rattle.sms_world_model.specs.World.{World, empty}
use Rattle.sms_world.specs.centres_refine_the_world.CentreRefinement.{CentreRefines}
use Rattle.sms_world.specs.centres_refine_the_world.FramesOut.{stacked_down}
use Rattle.sms_world.specs.centre_runs_are_steps.RunEvents.{AreOfEvent, MayArrive, moment_at}

pub data Episode : Type 0 where
  -- an event that is committed and adopted; a frame is handed over by its number
  Whole : (number : ℕ) → (event : CentreEvent) → Episode
  -- an event of a script that is stopped behind the store call: the centre restarts with these handsets and sessions
  Stopped : (number : ℕ) → (event : CentreEvent) → (handsets : List (List ℕ)) → (sessions : List Session) → Episode
  -- a restart, and no more is an event that is stopped before its store call
  Restart : (handsets : List (List ℕ)) → (sessions : List Session) → Episode
  -- steps of a handset, whole or stopped
  Others : (handset : List ℕ) → (moment : ℕ) → (stopped : Bool) → (steps : List Step) → Episode

-- where it leads the centre
abbrev pub lead : Episode → Core → Core
lead (Whole number event) c = core_of (happened event c)
lead (Stopped number event handsets sessions) c = recovered (rows_of (happened event c).store) handsets sessions
lead (Restart handsets sessions) c = recovered c.rows handsets sessions
lead (Others handset moment stopped steps) c = c

-- the events that scripts have, and the order that does what one of them does
abbrev pub IsScripted : CentreEvent → Type 0
IsScripted (Submit account message) = Unit {0}
IsScripted (Query account wanted) = Unit {0}
IsScripted (Cancel account wanted) = Unit {0}
IsScripted (Bound session account receives) = ⊥
IsScripted (Unbound session) = ⊥
IsScripted (DeliverAnswered session id is_accepted) = ⊥
IsScripted (Frame handset octets tag) = Unit {0}
IsScripted (LinkUp handset) = ⊥
IsScripted (LinkDown handset) = ⊥
IsScripted (Ordered Retry id) = ⊥
IsScripted (Ordered Delete id) = Unit {0}
IsScripted (Tick now) = Unit {0}

-- handsets with numbers, no two the same, and sessions in the order of their numbers in which only receipts of these rows were sent
pub record CanRestart (rows : Rows) (handsets : List (List ℕ)) (sessions : List Session) : Type 0 where
  pub numbers : (number : List ℕ) → Among number handsets → IsNumber number
  pub different : AreDifferent handsets
  pub keys : Rises session_key sessions
  pub each : (session : Session) → Among session sessions → IsSession rows session

-- the episode may be
abbrev pub MayBe : Episode → Core → World → Type 0
MayBe (Whole number event) c w = IsEvent event × MayArrive number event w
MayBe (Stopped number event handsets sessions) c w =
    IsScripted event × IsEvent event × MayArrive number event w × CanRestart (rows_of (happened event c).store) handsets sessions
MayBe (Restart handsets sessions) c w = CanRestart c.rows handsets sessions
MayBe (Others handset moment stopped steps) c w = AllOfHandset handset steps × Run w (items moment stopped steps)

-- It is steps of the world that lead from the one to the other. The centre's own put its frames on top of the bag, or none where it
-- was stopped.
abbrev pub IsSteps : Episode → Core → World → World → Type 0
IsSteps (Whole number event) c w v =
    (steps : List Step)
    × ((AreOfEvent number event w steps × AllOfCentre steps) × Run w (items (moment_at event c) false steps)
    × (v ≡ end w (items (moment_at event c) false steps))
    × (v.bag ≡ stacked_down (happened event c).links.frames w.bag))
IsSteps (Stopped number event handsets sessions) c w v =
    (steps : List Step)
    × ((AreOfEvent number event w steps × AllOfCentre steps) × Run w (items (moment_at event c) true steps) × (v ≡ end w (items (moment_at event c) true steps))
    × (v.bag ≡ w.bag))
IsSteps (Restart handsets sessions) c w v = v ≡ w
IsSteps (Others handset moment stopped steps) c w v = v ≡ end w (items moment stopped steps)

-- Each episode is steps of the world from where the one before it led; and in the end the centre sees the world.
abbrev pub IsRun : List Episode → Core → World → Type 0
IsRun [] c w = IsSoundCore c × HasOffered c × CentreRefines w (draft_of c) w
IsRun (e ∷ es) c w = MayBe e c w → (v : World) × (IsSteps e c w v × IsRun es (lead e c) v)

abbrev pub RunLaw : Type 0
RunLaw = (episodes : List Episode) (c : Core) (w : World) → IsSoundCore c → HasOffered c → CentreRefines w (draft_of c) w → IsRun episodes c w

-- that of a new store's centre, in the empty world
abbrev pub FirstRunLaw : Type 0
FirstRunLaw =
    (episodes : List Episode) (setup : Setup) (handsets : List (List ℕ)) (sessions : List Session) → IsSetup setup
    → CanRestart (first_rows setup) handsets sessions
    → IsRun episodes (started (first_rows setup) handsets sessions) empty
