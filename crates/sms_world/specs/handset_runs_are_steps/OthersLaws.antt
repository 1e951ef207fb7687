-- What other handsets and the centre do leaves what a handset sees.
use Rattle.std.specs.Prelude.{◌≡◌, ℕ, List, Bool}
use Rattle.sms_world_model.specs.World.{World}
use Rattle.sms_world_model.specs.ScriptRun.{items}
use Rattle.sms_world_model.specs.Sides.{AllOfHandset, AllOfCentre}
use Rattle.sms_world_model.specs.WorldStep.{Step, end}
use Rattle.sms_handset_draft.specs.Draft.{Core, draft_of, no_changes}
use Rattle.sms_world.specs.handset_runs_are_steps.PutInOrder.{AreNoted}
use Rattle.sms_world.specs.handset_runs_are_steps.Refinement.{Refines}

abbrev pub OtherLaw : Type 0
OtherLaw =
    (h g : List ℕ) (c : Core) (w : World) (m : ℕ) (b : Bool) (ss : List Step) → ¬ (g ≡ h) → AllOfHandset g ss → Refines h w (draft_of c) w
    → Refines h (end w (items m b ss)) (draft_of c) (end w (items m b ss)) × AreNoted h no_changes w (end w (items m b ss))

abbrev pub CentreLaw : Type 0
CentreLaw =
    (h : List ℕ) (c : Core) (w : World) (m : ℕ) (b : Bool) (ss : List Step) → AllOfCentre ss → Refines h w (draft_of c) w
    → Refines h (end w (items m b ss)) (draft_of c) (end w (items m b ss)) × AreNoted h no_changes w (end w (items m b ss))
