-- What a centre's code plans leads on in the world.
use Rattle.std.specs.Prelude.{◌≡◌, ℕ, false, List}
use Rattle.sms_centre_spec.specs.CentreEvent.{happened}
use Rattle.sms_centre_spec.specs.Draft.{Core, core_of, draft_of}
use Rattle.sms_centre_spec.specs.SoundCore.{IsEvent, IsSoundCore}
use Rattle.sms_centre_spec.specs.declared.event.CentreEvent.{CentreEvent}
use Rattle.sms_world.specs.centre_runs_are_steps.Offered.{HasOffered}
use Rattle.sms_world_model.specs.WorldStep.{Run, end, Step}
use Rattle.sms_world_model.specs.ScriptRun.{items}
use Rattle.sms_world_model.specs.Sides.{AllOfCentre}
use Rattle.sms_world_model.specs.World.{World}
use Rattle.sms_world.specs.centres_refine_the_world.CentreRefinement.{CentreRefines}
use Rattle.sms_world.specs.centres_refine_the_world.FramesOut.{stacked_down}
use Rattle.sms_world.specs.centre_runs_are_steps.RunEvents.{AreOfEvent, MayArrive, moment_at}
use Rattle.sms_centre.specs.plans.EventOutcome.{IsOutcome}
use Rattle.sms_centre.specs.declared.plans.event_outcome.EventOutcome.{EventOutcome}

-- The event is steps of the world, all of them the centre's own. The frames of the plan are put on top of the bag. The centre that
-- adopted the plan refines the world to which the steps lead, sound, with all offered that can be.
abbrev pub LeadsOn : ℕ → CentreEvent → Core → EventOutcome → World → Type 0
LeadsOn number event c p w =
    (steps : List Step)
    × ((AreOfEvent number event w steps × AllOfCentre steps) × Run w (items (moment_at event c) false steps)
    × ((end w (items (moment_at event c) false steps)).bag ≡ stacked_down p.outputs.frames w.bag)
    × CentreRefines (end w (items (moment_at event c) false steps)) (draft_of (core_of (happened event c))) (end w (items (moment_at event c) false steps))
    × IsSoundCore (core_of (happened event c)) × HasOffered (core_of (happened event c)))

-- `IsOutcome (happened event c)` is what `Centre::plan` says of its plan where the code is the centre `c`, in its clause `outcome`.
-- `Centre::adopt` makes it `core_of (happened event c)`.
abbrev pub PlannedLaw : Type 0
PlannedLaw =
    (number : ℕ) (event : CentreEvent) (c : Core) (p : EventOutcome) (w : World) → IsOutcome (happened event c) p → IsSoundCore c → HasOffered c → IsEvent event
    → MayArrive number event w
    → CentreRefines w (draft_of c) w → LeadsOn number event c p w
