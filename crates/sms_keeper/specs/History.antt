-- One history: items in order, each with the outs that the machine's definition gives after the items before it.
use Rattle.std.specs.Prelude.{◌≡◌, ◌==◌, ◌<◌, ℕ, zero, suc, if◌then◌else◌, List, [], ◌∷◌, ◌++◌, Option, Some, None}
use Rattle.sms_keeper.specs.declared.machine.Stimulus.{Stimulus}
use Rattle.sms_keeper.specs.declared.machine.Stimulus.TheVariants.{Job, Tick, Own}
use Rattle.sms_keeper.specs.declared.machine.Fate.{Fate}
use Rattle.sms_keeper.specs.declared.machine.Item.{Item}
use Rattle.sms_keeper.specs.declared.outs.Out.{Out}
use Rattle.sms_seats.specs.declared.jobs.Letter.{Letter}

module _ {J O S : Type 0} (gives : S → Stimulus J → Fate → List (Out O)) (after : S → Stimulus J → Fate → S) where
  -- from the state s the items lead to the state t
  abbrev pub IsHistory : S → List (Item J O) → S → Type 0
  IsHistory s [] t = t ≡ s
  IsHistory s (e ∷ es) t = (e.outs ≡ gives s e.stimulus e.fate) × IsHistory (after s e.stimulus e.fate) es t

  -- from whatever state there was before them the items lead to the state after them
  abbrev pub Leads : (S → Type 0) → List (Item J O) → (S → Type 0) → Type 0
  Leads before items behind = (s : S) → before s → (t : S) × (IsHistory s items t × behind t)

-- a moment after the last tick, if there was one
abbrev pub IsLater : Option ℕ → ℕ → Type 0
IsLater None m = Unit {0}
IsLater (Some last) m = last < m

module _ {J : Type 0} where
  abbrev pub tick_after : Option ℕ → Stimulus J → Option ℕ
  tick_after last (Job s j) = last
  tick_after last (Tick m) = Some m
  tick_after last (Own errand) = last

module _ {J : Type 0} (reads : ℕ → Type 0) where
  -- a tick is later than the last one, and of a moment that the clock shows. A job or an errand is run only where the clock shows no moment
  -- after the last tick
  abbrev pub IsTimely : Option ℕ → Stimulus J → Type 0
  IsTimely last (Job s j) = (m : ℕ) × reads m × (IsLater last m → ⊥)
  IsTimely last (Tick m) = IsLater last m × reads m
  IsTimely last (Own errand) = (m : ℕ) × reads m × (IsLater last m → ⊥)

module _ {J O : Type 0} (reads : ℕ → Type 0) where
  -- after a tick at a, or after none, each item is timely, and b is the last tick then
  abbrev pub IsRising : Option ℕ → List (Item J O) → Option ℕ → Type 0
  IsRising a [] b = b ≡ a
  IsRising a (e ∷ es) b = IsTimely reads a e.stimulus × IsRising (tick_after a e.stimulus) es b

module _ {O : Type 0} where
  -- the outs for one seat
  abbrev pub outs_to : ℕ → List (Out O) → List O
  outs_to k [] = []
  outs_to k (o ∷ os) = if k == o.seat then o.out ∷ outs_to k os else outs_to k os

module _ {J : Type 0} where
  abbrev pub asked_by : Stimulus J → List (ℕ × J)
  asked_by (Job s j) = (s, j) ∷ []
  asked_by (Tick m) = []
  asked_by (Own errand) = []

module _ {J O : Type 0} where
  -- the outs for one seat, in all items
  abbrev pub answers_in : ℕ → List (Item J O) → List O
  answers_in k [] = []
  answers_in k (e ∷ es) = outs_to k e.outs ++ answers_in k es

  -- the jobs of the items, each with its seat
  abbrev pub asked : List (Item J O) → List (ℕ × J)
  asked [] = []
  asked (e ∷ es) = asked_by e.stimulus ++ asked es

module _ {J : Type 0} where
  -- the jobs of one seat
  abbrev pub for_seat : ℕ → List (ℕ × J) → List J
  for_seat n [] = []
  for_seat n (p ∷ ps) = if n == p.0 then p.1 ∷ for_seat n ps else for_seat n ps

  abbrev pub job_of : ℕ → Option J → List (ℕ × J)
  job_of s (Some j) = (s, j) ∷ []
  job_of s None = []

  -- the jobs of what was popped, without the end marks
  abbrev pub work : List (Letter J) → List (ℕ × J)
  work [] = []
  work (x ∷ xs) = job_of x.seat x.job ++ work xs

module _ {J O : Type 0} where
  -- the jobs of one seat in all items
  abbrev pub jobs_of : ℕ → List (Item J O) → List J
  jobs_of n es = for_seat n (asked es)

-- what f says of each of the first n seats
abbrev pub each_seat : {A : Type 0} → ℕ → (ℕ → A) → List A
each_seat zero f = []
each_seat (suc n) f = each_seat n f ++ f n ∷ []
