-- A walk over handsets, one after the other.
use Rattle.std.specs.Prelude.{◌≡◌, ℕ, List, [], ◌∷◌, Bool, false}
use Rattle.sms_base.specs.Among.{Among}
use Rattle.sms_centre_queue.specs.declared.queues.concern.ConcernedHandset.{ConcernedHandset}

-- what a step at each of these handsets leads to
abbrev pub walk : {D : Type 0} → (List ℕ → D → D) → List ConcernedHandset → D → D
walk step [] d = d
walk step (s ∷ ss) d = walk step ss (step s.number d)

-- no handset is there twice
abbrev pub AreApart : List ConcernedHandset → Type 0
AreApart [] = Unit {0}
AreApart (s ∷ ss) = ((t : ConcernedHandset) → Among t ss → ¬ (s.number ≡ t.number)) × AreApart ss

-- Where a step does nothing at a handset that it doesn't concern, and doesn't change whether another concerns it.
pub record StepsAlone (D : Type 0) (step : List ℕ → D → D) (concerns : List ℕ → D → Bool) : Type 0 where
  pub rests : (number : List ℕ) (d : D) → concerns number d ≡ false → step number d ≡ d
  pub others : (number other : List ℕ) (d : D) → ¬ (number ≡ other) → concerns other (step number d) ≡ concerns other d
