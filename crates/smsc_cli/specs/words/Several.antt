-- Words of which there are several, each with a name of its own, one more at a time.
use Rattle.std.specs.Prelude.{◌≡◌, ◌≢◌, ◌<◌, ℕ, zero, suc, List, [], ◌∷◌, length}
use Rattle.std.specs.List.{AllByRecursion}

-- none of these has the name
abbrev pub IsNew : {A : Type 0} → (A → List ℕ) → List ℕ → List A → Type 0
IsNew {A} name text some = AllByRecursion (λ (other : A). name other ≢ text) some

-- one of that name may be added: it is new, and there are fewer than the most
abbrev pub HasRoom : {A : Type 0} → (A → List ℕ) → ℕ → List ℕ → List A → Type 0
HasRoom name most text some = IsNew name text some × (length some < most)

-- each text adds one more, in order; Adds says what a text adds
abbrev pub AddsEach : {A : Type 0} → (List ℕ → List A → List A → Type 0) → List (List ℕ) → List A → List A → Type 0
AddsEach Adds [] old new = new ≡ old
AddsEach {A} Adds (text ∷ texts) old new = (more : List A) × Adds text old more × AddsEach Adds texts more new

-- each text before that place adds one more, in order, and the text at that place can't
abbrev pub StopsAtOne : {A : Type 0} → (List ℕ → List A → List A → Type 0) → (List ℕ → List A → Type 0) → ℕ → List (List ℕ) → List A → List A → Type 0
StopsAtOne Adds AddsNothing place [] old new = ⊥
StopsAtOne Adds AddsNothing zero (text ∷ texts) old new = AddsNothing text old × (new ≡ old)
StopsAtOne {A} Adds AddsNothing (suc place) (text ∷ texts) old new = (more : List A) × Adds text old more × StopsAtOne Adds AddsNothing place texts more new
