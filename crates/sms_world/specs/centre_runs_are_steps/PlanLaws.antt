-- What the centre plans leads on in the world, and the centre that adopts the plan sees where.
use Rattle.std.specs.Prelude.{◌≡◌, ℕ, Bool, false, List, Ok}
use Rattle.sms_centre_spec.specs.Draft.{Core, draft_of}
use Rattle.sms_centre_spec.specs.Planning.{Outcome, adopted, plan_of}
use Rattle.sms_centre_spec.specs.SoundCore.{IsEvent, IsSoundCore}
use Rattle.sms_centre_spec.specs.declared.event.CentreEvent.{CentreEvent}
use Rattle.sms_world.specs.centre_runs_are_steps.Offered.{HasOffered}
use Rattle.sms_world_model.specs.WorldStep.{Run, end, Step}
use Rattle.sms_world_model.specs.ScriptRun.{items}
use Rattle.sms_world_model.specs.Sides.{AllOfCentre}
use Rattle.sms_world_model.specs.World.{World}
use Rattle.sms_world.specs.centres_refine_the_world.CentreRefinement.{CentreRefines}
use Rattle.sms_world.specs.centres_refine_the_world.FramesOut.{stacked_down}
use Rattle.sms_world.specs.centre_runs_are_steps.RunEvents.{AreOfEvent, MayArrive, moment_at}

-- The plan leads on. Its event is steps of the world, all of them the centre's own. The frames that it hands out are put on top of the bag.
-- The centre that adopts it refines the world to which the steps lead, sound, with all offered that can be.
abbrev pub LeadsOn : ℕ → CentreEvent → Core → Outcome → World → Type 0
LeadsOn number event c outcome w =
    (steps : List Step)
    × ((AreOfEvent number event w steps × AllOfCentre steps) × Run w (items (moment_at event c) false steps)
    × ((end w (items (moment_at event c) false steps)).bag ≡ stacked_down outcome.frames w.bag)
    × CentreRefines (end w (items (moment_at event c) false steps)) (draft_of (adopted outcome c)) (end w (items (moment_at event c) false steps))
    × IsSoundCore (adopted outcome c) × HasOffered (adopted outcome c))

-- whatever the store answers
abbrev pub PlanLaw : Type 0
PlanLaw =
    (answers : ℕ → Bool) (number : ℕ) (event : CentreEvent) (c : Core) (outcome : Outcome) (w : World) → plan_of answers event c ≡ Ok outcome → IsSoundCore c
    → HasOffered c → IsEvent event
    → MayArrive number event w → CentreRefines w (draft_of c) w → LeadsOn number event c outcome w
