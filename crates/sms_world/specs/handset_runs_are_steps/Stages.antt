-- Stages of an event, as steps of the world.
use Rattle.std.specs.Prelude.{ℕ, List, [], ◌∷◌, false}
use Rattle.sms_handset_draft.specs.Draft.{Draft}
use Rattle.sms_world_model.specs.World.{World, Frame}
use Rattle.sms_world_model.specs.ScriptRun.{Event, Follows, IsPlayed, items, Reads}
use Rattle.sms_world_model.specs.Sides.{IsOfHandset, AllOfHandset}
use Rattle.sms_world_model.specs.WorldStep.{Step, Run, end}
use Rattle.sms_world.specs.handset_runs_are_steps.Refinement.{Refines}

-- steps of this handset that may follow
abbrev pub AllMine : List ℕ → List Step → Type 0
AllMine h [] = Unit {0}
AllMine h (s ∷ ss) = Follows s × IsOfHandset h s × AllMine h ss

-- a stage that is steps of one kind
abbrev pub Moves : (List Step → Type 0) → ℕ → List ℕ → World → Draft → World → Type 0
Moves Kind_of moment handset before new w =
    (steps : List Step) × (Kind_of steps × Run w (items moment false steps) × Refines handset before new (end w (items moment false steps)))

-- an event that leads to the draft is such steps, all of them the handset's own
abbrev pub Happens : ℕ → Event → List ℕ → World → Draft → World → Type 0
Happens moment event handset before new w = Moves (λ steps. IsPlayed w event steps × AllOfHandset handset steps) moment handset before new w

-- the step that reads that frame, and steps that follow
abbrev pub ReadsOne : ℕ → Frame → List ℕ → World → Draft → World → Type 0
ReadsOne m u h b new w =
    (step : Step) × (rest : List Step)
    × (Reads u step × IsOfHandset h step × AllMine h rest × Run w (items m false (step ∷ rest)) × Refines h b new (end w (items m false (step ∷ rest))))
