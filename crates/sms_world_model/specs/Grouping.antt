-- What becomes of the groups of a key as parts are accepted, for those who show that a handset joins as the world does.
use Rattle.std.specs.Prelude.{◌≡◌, ℕ, List, [], ◌∷◌, length, true, false}
use Rattle.sms_world_model.specs.World.{Accepted, World}
use Rattle.sms_world_model.specs.WorldStep.{HasNotJoined}
use Rattle.sms_world_model.specs.Groups.{IsEndedAt, groups_of, all_numbers, is_among, is_for, number_in, numbers}
use Rattle.sms_world_model.specs.Place.{Key}

-- a part of another key, or at another handset, changes nothing
abbrev pub OthersStay : Type 0
OthersStay = (h : List ℕ) (k : Key) (p : Accepted) (accepted : List Accepted) → is_for h k p ≡ false → groups_of h k (p ∷ accepted) ≡ groups_of h k accepted

-- a part whose number the present group has is passed over
abbrev pub IsPassed : Type 0
IsPassed =
    (h : List ℕ) (k : Key) (p : Accepted) (accepted : List Accepted) → is_for h k p ≡ true →
    is_among (number_in p) (numbers (groups_of h k accepted).present) ≡ true → groups_of h k (p ∷ accepted) ≡ groups_of h k accepted

-- another part joins it
abbrev pub JoinsGroup : Type 0
JoinsGroup =
    (h : List ℕ) (k : Key) (p : Accepted) (accepted : List Accepted) → is_for h k p ≡ true →
    is_among (number_in p) (numbers (groups_of h k accepted).present) ≡ false →
    all_numbers k.total (numbers (p ∷ (groups_of h k accepted).present)) ≡ false →
    groups_of h k (p ∷ accepted) ≡ record { present = p ∷ (groups_of h k accepted).present; ended = (groups_of h k accepted).ended }

-- and ends it where it is full then, at the next place
abbrev pub Ends : Type 0
Ends =
    (h : List ℕ) (k : Key) (p : Accepted) (accepted : List Accepted) → is_for h k p ≡ true →
    is_among (number_in p) (numbers (groups_of h k accepted).present) ≡ false →
    all_numbers k.total (numbers (p ∷ (groups_of h k accepted).present)) ≡ true →
    (groups_of h k (p ∷ accepted) ≡ record { present = []; ended = (p ∷ (groups_of h k accepted).present) ∷ (groups_of h k accepted).ended })
    × IsEndedAt (length (groups_of h k accepted).ended) (p ∷ (groups_of h k accepted).present) (groups_of h k (p ∷ accepted)).ended

-- where nothing was joined yet
abbrev pub NextIsNew : World → Type 0
NextIsNew w = (h : List ℕ) (k : Key) → HasNotJoined w.joined h k (length (groups_of h k w.accepted).ended)
