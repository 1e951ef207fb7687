-- What the centre keeps of the references that it gave: for each reference of a handset the last second in which it was
-- given there.
use Rattle.std.specs.Prelude.{◌≡◌, ℕ, ◌<◌, ◌≤◌, List, Option, Some, None}
use Rattle.sms_base.specs.Among.{Among}
use Rattle.sms_world_model.specs.World.{Allocation}

-- the last second that is kept of a handset and a reference
abbrev pub LastAllocations : Type 0
LastAllocations = List ℕ → ℕ → Option ℕ

-- What is kept is the moment of a real giving, not later than now, and no giving there is later than it.
pub record RefinesAllocations (latest : LastAllocations) (down : List Allocation) (now : ℕ) : Type 0 where
  pub all : (g : Allocation) → Among g down → (second : ℕ) × ((latest g.handset g.reference ≡ Some second) × (g.moment ≤ second))
  pub real : (handset : List ℕ) (reference second : ℕ) → latest handset reference ≡ Some second →
      (g : Allocation) × (Among g down × (g.handset ≡ handset) × (g.reference ≡ reference) × (g.moment ≡ second))
  pub past : (handset : List ℕ) (reference second : ℕ) → latest handset reference ≡ Some second → second ≤ now

-- it was never given, or its last second is before now
abbrev pub WasEarlier : Option ℕ → ℕ → Type 0
WasEarlier None now = Unit {0}
WasEarlier (Some second) now = second < now

-- the last second of the giving's reference is its moment now, and the others stay
pub record IsLastAllocation (before after : LastAllocations) (g : Allocation) : Type 0 where
  pub here : after g.handset g.reference ≡ Some g.moment
  pub there : (handset : List ℕ) (reference : ℕ) → ¬ ((handset ≡ g.handset) × (reference ≡ g.reference)) → after handset reference ≡ before handset reference
