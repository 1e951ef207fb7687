-- The parts of one key at one handset. Those that it accepted are groups, which it joins; those that were submitted to it are rounds. Lists are
-- newest first.
use Rattle.std.specs.Prelude.{◌≡◌, ◌⊎◌, ℕ, zero, suc, List, [], ◌∷◌, Bool, true, false, if◌then◌else◌, ◌==◌, ◌||◌, ◌&&◌, length, Option, Some, None}
use Rattle.sms_base.specs.Among.{Among}
use Rattle.sms_world_model.specs.World.{Accepted, is_same_handset, Allocation, pair_given}
use Rattle.sms_world_model.specs.Place.{Key, has_key, number_of, place_in, carried_in, joined_parts, with_part}
use Rattle.sms_concat.specs.declared.content.Content.{Content}
use Rattle.sms_concat.specs.declared.content.Part.{Part as PartOf}
use Rattle.sms_base.specs.declared.holder.Holder.{Holder}
use Rattle.sms_base.specs.declared.holder.Holder.TheVariants.{Part, Report, Entry, Memory}

-- ---- lists

-- x is one of these, and only once
abbrev pub OccursOnce : {A : Type 0} → A → List A → Type 0
OccursOnce x [] = ⊥
OccursOnce x (y ∷ ys) = (x ≡ y × ¬ Among x ys) ⊎ (¬ (x ≡ y) × OccursOnce x ys)

-- the number is one of these
abbrev pub is_among : ℕ → List ℕ → Bool
is_among n [] = false
is_among n (m ∷ ms) = (n == m) || is_among n ms

-- the numbers 1 to n are all there
abbrev pub all_numbers : ℕ → List ℕ → Bool
all_numbers zero ms = true
all_numbers (suc n) ms = is_among (suc n) ms && all_numbers n ms

-- the others
abbrev pub without : ℕ → List ℕ → List ℕ
without n [] = []
without n (m ∷ ms) = if n == m then without n ms else m ∷ without n ms

-- ---- parts of one key

abbrev pub number_in : Accepted → ℕ
number_in p = number_of (place_in p.tpdu)

abbrev pub is_for : List ℕ → Key → Accepted → Bool
is_for handset k p = is_same_handset p.handset handset && has_key k (place_in p.tpdu)

-- those of one key at one handset
abbrev pub of_key : List ℕ → Key → List Accepted → List Accepted
of_key handset k [] = []
of_key handset k (p ∷ ps) = if is_for handset k p then p ∷ of_key handset k ps else of_key handset k ps

abbrev pub numbers : List Accepted → List ℕ
numbers [] = []
numbers (p ∷ ps) = number_in p ∷ numbers ps

-- ---- groups: accepted parts of one key, in the order in which the handset accepted them

pub record Groups : Type 0 where
  pub present : List Accepted
  pub ended : List (List Accepted)

-- a part joins the present group, or is passed over where the group has its number; a full group ends
abbrev pub grouped : ℕ → Accepted → Groups → Groups
grouped total p g =
    if is_among (number_in p) (numbers g.present) then g
    else (if all_numbers total (numbers (p ∷ g.present))
    then record { present = []; ended = (p ∷ g.present) ∷ g.ended }
    else record { present = p ∷ g.present; ended = g.ended })

abbrev pub groups : ℕ → List Accepted → Groups
groups total [] = record { present = []; ended = [] }
groups total (p ∷ older) = grouped total p (groups total older)

abbrev pub groups_of : List ℕ → Key → List Accepted → Groups
groups_of handset k accepted = groups k.total (of_key handset k accepted)

-- the group ended, and so many had ended before
abbrev pub IsEndedAt : ℕ → List Accepted → List (List Accepted) → Type 0
IsEndedAt place group [] = ⊥
IsEndedAt place group (e ∷ older) = ((place ≡ length older) × (group ≡ e)) ⊎ IsEndedAt place group older

-- the part of that number
abbrev pub carried_by : ℕ → List Accepted → Option PartOf
carried_by n [] = None
carried_by n (p ∷ ps) = if number_in p == n then carried_in p.tpdu else carried_by n ps

-- the parts with the numbers 1 to n, in order
abbrev pub parts_to : ℕ → List Accepted → Option (List PartOf)
parts_to zero ps = Some []
parts_to (suc n) ps = with_part (parts_to n ps) (carried_by (suc n) ps)

-- what a group joins to, if its parts do
abbrev pub joined_content : ℕ → List Accepted → Option Content
joined_content total ps = joined_parts (parts_to total ps)

-- ---- rounds: parts of one key that originators submitted, in that order, those of a split message in a row

pub record Rounds : Type 0 where
  pub present : List Accepted
  pub finished : List (List Accepted)

-- a part whose number the present round has begins the next
abbrev pub rounded : Accepted → Rounds → Rounds
rounded p r =
    if is_among (number_in p) (numbers r.present)
    then record { present = p ∷ []; finished = r.present ∷ r.finished }
    else record { present = p ∷ r.present; finished = r.finished }

abbrev pub rounds : List Accepted → Rounds
rounds [] = record { present = []; finished = [] }
rounds (p ∷ older) = rounded p (rounds older)

abbrev pub with_part_of : Holder → Accepted → List Accepted → List Accepted
with_part_of (Part id n) p ps = p ∷ ps
with_part_of (Report id) p ps = ps
with_part_of (Entry n) p ps = ps
with_part_of (Memory n) p ps = ps

-- the parts that were submitted, as they are offered
abbrev pub submitted_pairs : List Allocation → List Accepted
submitted_pairs [] = []
submitted_pairs (g ∷ older) = with_part_of g.holder (pair_given g) (submitted_pairs older)

abbrev pub rounds_of : List ℕ → Key → List Allocation → Rounds
rounds_of handset k down = rounds (of_key handset k (submitted_pairs down))

-- both have these items, in any order
abbrev pub SameItems : List Accepted → List Accepted → Type 0
SameItems ps qs = (x : Accepted) → (Among x ps → Among x qs) × (Among x qs → Among x ps)
