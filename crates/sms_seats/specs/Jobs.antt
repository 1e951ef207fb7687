-- For each seat, what it put is its part of what the keeper popped, and then its part of the queue.
use Rattle.std.specs.Prelude.{◌≡◌, ◌==◌, ℕ, ◌≤◌, Bool, true, false, if◌then◌else◌, List, [], ◌∷◌, ◌++◌, Option, Some, None, ◌||◌}
use mathlib.Core.Option.{some}
use lib.ListN.{get_elem?}
use Rattle.sms_seats.specs.declared.jobs.Letter.{Letter}
use Rattle.sms_seats.specs.declared.jobs.JobsView.{JobsView}

module _ {J : Type 0} where
  abbrev pub is_end : Option J → Bool
  is_end (Some j) = false
  is_end None = true

  abbrev pub letter : ℕ → Option J → Letter J
  letter s j = record { seat = s; job = j }

  -- what is of one seat
  abbrev pub of : ℕ → List (Letter J) → List (Option J)
  of s [] = []
  of s (x ∷ xs) = if s == x.seat then x.job ∷ of s xs else of s xs

  -- the keeper, which has made some seats
  abbrev pub keeper_view : ℕ → List (Letter J) → JobsView J
  keeper_view made ran = record { runs = true; made = made; ran = ran; puts = false; seat = 0; put = [] }

  abbrev pub seat_view : ℕ → List (Option J) → JobsView J
  seat_view s put = record { runs = false; made = 0; ran = []; puts = true; seat = s; put = put }

  abbrev pub both_view : JobsView J → JobsView J → JobsView J
  both_view v w = record { runs = true; made = v.made; ran = v.ran; puts = true; seat = w.seat; put = w.put }

  abbrev pub spent_view : JobsView J
  spent_view = record { runs = false; made = 0; ran = []; puts = false; seat = 0; put = [] }

  -- the pass of a seat, of which there is one, knows what the seat put
  abbrev pub FitsSeat : (ℕ → ℕ) → (ℕ → List (Option J)) → ℕ → JobsView J → Type 0
  FitsSeat owner sent port v = v.puts ≡ true → (port ≡ owner v.seat) × (v.put ≡ sent v.seat)

  -- the keeper's pass knows what it popped, and that no later seat is made
  abbrev pub FitsKeeper : ℕ → (ℕ → ℕ) → (ℕ → List (Option J)) → List (Letter J) → ℕ → JobsView J → Type 0
  FitsKeeper keeper owner sent ran port v =
      v.runs ≡ true → (port ≡ keeper) × (v.ran ≡ ran) × ((s : ℕ) → v.made ≤ s → (owner s ≡ keeper) × (sent s ≡ []))

  abbrev pub Ordered : List (Letter J) → List (JobsView J) → Type 0
  Ordered items views =
      (keeper : ℕ) × (owner : ℕ → ℕ) × (sent : ℕ → List (Option J)) × (ran : List (Letter J))
      × ((s : ℕ) → sent s ≡ of s ran ++ of s items)
      × ((port : ℕ) (v : JobsView J) → get_elem? views port ≡ some v → FitsSeat owner sent port v × FitsKeeper keeper owner sent ran port v)

  -- an end mark is there
  abbrev pub has_end : List (Option J) → Bool
  has_end [] = false
  has_end (x ∷ xs) = is_end x || has_end xs

  -- nothing is behind an end mark
  abbrev pub ends_last : List (Option J) → Bool
  ends_last [] = true
  ends_last (Some j ∷ xs) = ends_last xs
  ends_last (None ∷ []) = true
  ends_last (None ∷ x ∷ xs) = false

  -- the jobs of what was put or popped, without end marks
  abbrev pub jobs_among : List (Option J) → List J
  jobs_among [] = []
  jobs_among (Some j ∷ xs) = j ∷ jobs_among xs
  jobs_among (None ∷ xs) = jobs_among xs
