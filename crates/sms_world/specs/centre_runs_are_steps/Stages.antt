-- Stages of the event in which a frame is handed to the centre, as steps of the world. At most one step reads the frame, and steps
-- follow it.
use Rattle.std.specs.Prelude.{◌≡◌, ℕ, List, ◌++◌, false}
use Rattle.sms_centre_spec.specs.Draft.{Draft, Store}
use Rattle.sms_world_model.specs.WorldStep.{Run, end, Step}
use Rattle.sms_world_model.specs.ScriptRun.{AllControl, AllMayFollow, Handed, IsOwn, items}
use Rattle.sms_world_model.specs.Sides.{AllOfCentre}
use Rattle.sms_world_model.specs.World.{World}
use Rattle.sms_world.specs.centres_refine_the_world.CentreRefinement.{CentreRefines, StoreRefines}

-- The frame of that number was in the bag of the world `before`, with which the event began.
pub record AreOfFrame (number : ℕ) (before : World) (own follows : List Step) : Type 0 where
  pub is_own : IsOwn before (Handed number) own
  pub own_centre : AllOfCentre own
  pub may_follow : AllMayFollow (Handed number) follows
  pub follows_centre : AllOfCentre follows

-- such steps lead to a world that is seen
abbrev pub Reaches : ℕ → ℕ → World → (World → Type 0) → World → Type 0
Reaches number moment before Seen w =
    (own : List Step) × (follows : List Step)
    × (AreOfFrame number before own follows × Run w (items moment false (own ++ follows)) × Seen (end w (items moment false (own ++ follows))))

-- by a centre in the middle of the event
abbrev pub AnswersInEvent : ℕ → ℕ → World → Draft → World → Type 0
AnswersInEvent number moment before d w = Reaches number moment before (λ v. CentreRefines before d v) w

-- by its rows, while nothing is sent
abbrev pub Settles : ℕ → ℕ → World → Store → World → Type 0
Settles number moment before s w = Reaches number moment before (λ v. StoreRefines s v × (v.bag ≡ w.bag)) w

-- What the links send of their own accord is first.
abbrev pub Begins : ℕ → ℕ → Draft → World → Type 0
Begins number moment d w =
    (control : List Step)
    × (AllControl control × AllOfCentre control × Run w (items moment false control) × AnswersInEvent number moment w d (end w (items moment false control)))
