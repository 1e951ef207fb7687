-- Values that are kept once, each under a place.
use Rattle.std.specs.Prelude.{◌≡◌, ◌⊎◌, ℕ, ◌+◌, ◌≤◌, List, [], ◌∷◌, ◌++◌, length, max, Some, slice_get}

-- the values in the order in which they were put, and how many more the memory holds
pub record InternedOf (A : Type 0) : Type 0 where
  pub values : List A
  pub room : ℕ

-- the value under a place
abbrev pub IsAt : {A : Type 0} → A → ℕ → List A → Type 0
IsAt value place values = slice_get values place ≡ Some value

-- places keep their values
abbrev pub Keeps : {A : Type 0} → List A → List A → Type 0
Keeps {A} old new = (value : A) (place : ℕ) → IsAt value place old → IsAt value place new

-- no place has the value
abbrev pub IsNowhere : {A : Type 0} → A → List A → Type 0
IsNowhere value values = (place : ℕ) → ¬ IsAt value place values

-- nothing changes where the value has a place, and else it gets the next one
abbrev pub IsKnownOrLast : {A : Type 0} → List A → A → List A → Type 0
IsKnownOrLast old value new = (new ≡ old) ⊎ (IsNowhere value old × (new ≡ old ++ value ∷ []))

-- the value is under the place, all others stay, and no more than this one is added
pub record Interned {A : Type 0} (old : InternedOf A) (value : A) (place : ℕ) (new : InternedOf A) : Type 0 where
  pub own : IsAt value place new.values
  pub others : Keeps old.values new.values
  pub only : IsKnownOrLast old.values value new.values
  pub room : old.room ≤ new.room + 1

-- with that much memory beside its own, so many more can be put without taking memory
abbrev pub Suffices : {A : Type 0} → ℕ → ℕ → InternedOf A → Type 0
Suffices extra reserve t = length t.values + extra ≤ max (length t.values + t.room) reserve

-- it took the memory in
abbrev pub TookNumbers : {A : Type 0} → ℕ → InternedOf A → InternedOf A → Type 0
TookNumbers reserve old new = max (length old.values + old.room) reserve ≤ length old.values + new.room
