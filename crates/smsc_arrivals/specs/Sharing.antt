-- What is given is shared out among seats: each takes the next, and nothing is taken twice.
use Rattle.std.specs.Prelude.{◌≡◌, ◌==◌, ◌<◌, ◌≤◌, ℕ, true, false, if◌then◌else◌, List, [], ◌∷◌, ◌++◌, Some, slice_get}
use mathlib.Core.Option.{some}
use lib.ListN.{get_elem?}
use Rattle.smsc_arrivals.specs.declared.sharing.SharesView.{SharesView}

module _ {T : Type 0} where
  -- what went to one seat, in order; each item stands behind the number of its seat
  abbrev pub of : ℕ → List (ℕ × T) → List T
  of s [] = []
  of s (x ∷ xs) = if s == x.0 then x.1 ∷ of s xs else of s xs

  -- the items, whoever took them
  abbrev pub items_of : List (ℕ × T) → List T
  items_of [] = []
  items_of (x ∷ xs) = x.1 ∷ items_of xs

  -- whoever gives, and has made some seats
  abbrev pub giver_view : ℕ → List T → List (List T) → List T → SharesView T
  giver_view made given settled returned =
      record { gives = true; made = made; given = given; settled = settled; returned = returned; takes = false; seat = 0; taken = [] }

  abbrev pub taker_view : ℕ → List T → SharesView T
  taker_view seat taken = record { gives = false; made = 0; given = []; settled = []; returned = []; takes = true; seat = seat; taken = taken }

  abbrev pub settled_view : SharesView T → SharesView T → SharesView T
  settled_view v w = giver_view v.made v.given (v.settled ++ w.taken ∷ []) v.returned

  abbrev pub spent_view : SharesView T
  spent_view = record { gives = false; made = 0; given = []; settled = []; returned = []; takes = false; seat = 0; taken = [] }

  -- the pass of a seat, of which there is one, knows what the seat took
  abbrev pub FitsTaker : (ℕ → ℕ) → List (ℕ × T) → ℕ → SharesView T → Type 0
  FitsTaker owner handed port v = v.takes ≡ true → (port ≡ owner v.seat) × (v.taken ≡ of v.seat handed)

  -- The pass of whoever gives knows what was given, and what those seats took whose passes it took in. What it took back stands behind the
  -- number of the next seat, and nothing behind a later one.
  abbrev pub FitsGiver : ℕ → (ℕ → ℕ) → List T → List (ℕ × T) → ℕ → SharesView T → Type 0
  FitsGiver giver owner given handed port v =
      v.gives ≡ true → (port ≡ giver) × (v.given ≡ given) × (of v.made handed ≡ v.returned) × ((s : ℕ) → v.made < s → of s handed ≡ [])
      × ((s : ℕ) → v.made ≤ s → owner s ≡ giver) × ((s : ℕ) (ts : List T) → slice_get v.settled s ≡ Some ts → (owner s ≡ giver) × (of s handed ≡ ts))

  abbrev pub Shared : List T → List (SharesView T) → Type 0
  Shared items views =
      (giver : ℕ) × (owner : ℕ → ℕ) × (given : List T) × (handed : List (ℕ × T)) × (given ≡ items_of handed ++ items)
      × ((port : ℕ) (v : SharesView T) → get_elem? views port ≡ some v → FitsTaker owner handed port v × FitsGiver giver owner given handed port v)

  -- What was given is, in order, what was taken, and then these. Each seat whose pass came back took its own, and no others took any.
  abbrev pub AreShared : SharesView T → List T → Type 0
  AreShared v items =
      (handed : List (ℕ × T)) × (v.given ≡ items_of handed ++ items) × (of v.made handed ≡ v.returned) × ((s : ℕ) → v.made < s → of s handed ≡ [])
      × ((s : ℕ) (ts : List T) → slice_get v.settled s ≡ Some ts → of s handed ≡ ts)
