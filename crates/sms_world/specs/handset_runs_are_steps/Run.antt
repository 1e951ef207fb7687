-- A handset's course: its events, whole or stopped behind the store call, its restarts, and what others do between them.
-- Whatever happens, it is steps of the world.
use Rattle.std.specs.Prelude.{◌≡◌, ◌⊎◌, ℕ, List, [], ◌∷◌, Bool, true, false}
use Rattle.sms_handset.specs.declared.event.HandsetEvent.{HandsetEvent}
use Rattle.sms_handset_draft.specs.declared.setup.Setup.{Setup}
use Rattle.sms_handset_draft.specs.Draft.{HandsetOf, draft_of, recovered, rows_after}
use Rattle.sms_handset.specs.HandsetEvent.{tag_of}
use Rattle.sms_handset.specs.Planning.{OfFrame, PlanOf, adopted}
use Rattle.sms_handset.specs.SoundCore.{IsSoundCore}
use Rattle.sms_handset.specs.SoundRows.{IsSetup}
use Rattle.sms_handset_draft.specs.FirstRows.{first_rows}
use Rattle.sms_world_model.specs.WorldStep.{Run, end, Step}
use Rattle.sms_world_model.specs.ScriptRun.{IsPlayed, items}
use Rattle.sms_world_model.specs.Sides.{AllOfCentre, AllOfHandset}
use Rattle.sms_world_model.specs.World.{World, empty}
use Rattle.sms_world.specs.frames_pass_between_sides.FramesDown.{IsHanded}
use Rattle.sms_world.specs.frames_pass_between_sides.FramesUp.{stacked}
use Rattle.sms_world.specs.handset_runs_are_steps.PlanLaws.{IsPlanned, event_seen}
use Rattle.sms_world.specs.handset_runs_are_steps.PutInOrder.{AreNoted}
use Rattle.sms_world.specs.handset_runs_are_steps.Refinement.{Refines}

pub data Episode : Type 0 where
  -- an event that is planned, committed and adopted, at a moment of the centre; a frame is handed over by its number
  Whole : (moment : ℕ) → (number : ℕ) → (event : HandsetEvent) → (plan : PlanOf) → Episode
  -- one that is stopped behind the store call: the handset recovers with a setup from what was committed
  Stopped : (moment : ℕ) → (number : ℕ) → (event : HandsetEvent) → (plan : PlanOf) → (setup : Setup) → Episode
  -- a restart, and no more is an event that is stopped before its store call
  Restart : (setup : Setup) → Episode
  -- steps of another handset or of the centre, whole or stopped
  Others : (moment : ℕ) → (stopped : Bool) → (steps : List Step) → Episode

-- the plan is one of the event, and a frame that is handed over is one of the world
abbrev pub MayPlan : List ℕ → ℕ → HandsetEvent → PlanOf → HandsetOf → World → Type 0
MayPlan h number event plan s w = IsPlanned plan s event × OfFrame event (λ octets tag. IsHanded h number octets (tag_of tag) w)

abbrev pub AreOthers : List ℕ → List Step → Type 0
AreOthers h steps = AllOfCentre steps ⊎ ((g : List ℕ) × (¬ (g ≡ h) × AllOfHandset g steps))

-- the episode may lead from the one handset to the other
abbrev pub MayLead : List ℕ → Episode → HandsetOf → World → HandsetOf → Type 0
MayLead h (Whole m number event plan) s w z = MayPlan h number event plan s w × (z.core ≡ adopted plan.outcome s.core)
MayLead h (Stopped m number event plan setup) s w z =
    MayPlan h number event plan s w × IsSetup setup × (z.core ≡ recovered (record (rows_after plan.outcome.changes s.core.rows) { setup = setup }))
MayLead h (Restart setup) s w z = IsSetup setup × (z.core ≡ recovered (record s.core.rows { setup = setup }))
MayLead h (Others m b steps) s w z = AreOthers h steps × Run w (items m b steps) × (z.core ≡ s.core)

-- It is steps of the world that lead from the one to the other. The handset's own put its frames on top of the bag, or none where
-- it was stopped. What its changes put is accepted and joined.
abbrev pub IsSteps : List ℕ → Episode → World → World → Type 0
IsSteps h (Whole m number event plan) w v =
    (steps : List Step)
    × ((IsPlayed w (event_seen number event) steps × AllOfHandset h steps) × Run w (items m false steps) × (v ≡ end w (items m false steps))
    × (v.bag ≡ stacked h plan.outcome.frames w.bag) × AreNoted h plan.outcome.changes w v)
IsSteps h (Stopped m number event plan setup) w v =
    (steps : List Step)
    × ((IsPlayed w (event_seen number event) steps × AllOfHandset h steps) × Run w (items m true steps) × (v ≡ end w (items m true steps))
    × AreNoted h plan.outcome.changes w v)
IsSteps h (Restart setup) w v = v ≡ w
IsSteps h (Others m b steps) w v = v ≡ end w (items m b steps)

-- Whatever each episode leads to, it is steps of the world from where the one before it led. In the end the handset sees the
-- world.
abbrev pub IsRun : List ℕ → List Episode → HandsetOf → World → Type 0
IsRun h [] s w = IsSoundCore s.core × Refines h w (draft_of s.core) w
IsRun h (e ∷ es) s w = (z : HandsetOf) → MayLead h e s w z → (v : World) × (IsSteps h e w v × IsRun h es z v)

abbrev pub RunLaw : Type 0
RunLaw = (h : List ℕ) (episodes : List Episode) (s : HandsetOf) (w : World) → IsSoundCore s.core → Refines h w (draft_of s.core) w → IsRun h episodes s w

-- a new handset's, in the empty world
abbrev pub FirstRunLaw : Type 0
FirstRunLaw =
    (h : List ℕ) (episodes : List Episode) (setup : Setup) (s : HandsetOf) → IsSetup setup → s.core ≡ recovered (first_rows setup) → IsRun h episodes s empty
