-- What the premises are decided by, kept under keys. It is to whom each reference was given last, what each handset accepted, and the
-- present round of each key.
use Rattle.std.specs.Prelude.{◌≡◌, ℕ, zero, suc, ◌==◌, nat_eq, ◌&&◌, ◌||◌, List, [], ◌∷◌, ◌++◌, if◌then◌else◌, Bool, true, false, Option, Some, None, is_some}
use Rattle.std.specs.Bool.{beq}
use Rattle.std.specs.Map.{lookup}
use Rattle.std.specs.Str.{bytes_eq}
use Rattle.sms_base.specs.declared.holder.Holder.{Holder}
use Rattle.sms_base.specs.declared.holder.Holder.TheVariants.{Part, Report, Entry, Memory}
use Rattle.sms_script.specs.declared.report.rows.AcceptedRow.{AcceptedRow}
use Rattle.sms_script.specs.declared.report.rows.Direction.{Direction}
use Rattle.sms_script.specs.declared.report.rows.Direction.TheVariants.{Up, Down}
use Rattle.sms_script.specs.declared.report.rows.GivenRow.{GivenRow}
use Rattle.sms_tpdu.specs.MoreMessages.{compared}
use Rattle.sms_play.specs.Premises.{has_pair, last_holder}
use Rattle.sms_world_model.specs.Place.{Key, Place as PlaceOf}
use Rattle.sms_world_model.specs.Groups.{is_among, number_in, rounds_of}
use Rattle.sms_world_model.specs.World.{Accepted, Allocation as AllocationOf, pair_given}
use Rattle.sms_world_model.specs.RoundKeys.{is_same_round, round_key}
use Rattle.sms_world_model.specs.declared.round_key.Place.{Place}
use Rattle.sms_world_model.specs.declared.round_key.RoundKey.{RoundKey}
use Rattle.sms_play.specs.declared.judging.watch.Allocation.{Allocation}
use Rattle.sms_play.specs.declared.judging.watch.Member.{Member}
use Rattle.sms_play.specs.declared.judging.watch.Pair.{Pair}
use Rattle.sms_play.specs.declared.judging.watch.Watch.{Watch}

-- ---- to whom references were given

abbrev pub is_up : Direction → Bool
is_up Up = true
is_up Down = false

-- a reference of a side at a handset
abbrev pub allocation_at : List ℕ → Direction → ℕ → Allocation
allocation_at handset side reference = record { handset = record { digits = handset }; is_up = is_up side; reference = reference }

abbrev pub is_same_allocation : Allocation → Allocation → Bool
is_same_allocation a b = bytes_eq a.handset.digits b.handset.digits && (beq a.is_up b.is_up && nat_eq a.reference b.reference)

-- each reference has its last holder
abbrev pub HasHolders : List GivenRow → List (Allocation × Holder) → Type 0
HasHolders given entries = (handset : List ℕ) (side : Direction) (reference : ℕ)
    → lookup (is_same_allocation (allocation_at handset side reference)) entries ≡ last_holder None handset side reference given

-- ---- what was accepted

-- what was accepted, as TPDUs are compared
abbrev pub pair_accepted : AcceptedRow → Accepted
pair_accepted a = record { handset = a.handset; reference = a.reference; tpdu = compared a.tpdu }

abbrev pub pair_in : Pair → Accepted
pair_in p = record { handset = p.handset.digits; reference = p.reference; tpdu = p.tpdu.items }

abbrev pub is_same_pair_in : Pair → Pair → Bool
is_same_pair_in a b = bytes_eq a.handset.digits b.handset.digits && (nat_eq a.reference b.reference && bytes_eq a.tpdu.items b.tpdu.items)

abbrev pub is_accepted : Pair → List (Pair × Unit {0}) → Bool
is_accepted p entries = is_some (lookup (is_same_pair_in p) entries)

-- what was accepted is there, and nothing else
abbrev pub HasAccepted : List Accepted → List (Pair × Unit {0}) → Type 0
HasAccepted accepted entries = (p : Pair) → is_accepted p entries ≡ has_pair (pair_in p) accepted

-- ---- rounds

-- the pairs of the parts, the newest first
abbrev pub newest : List Accepted → List Member → List Accepted
newest round [] = round
newest round (m ∷ ms) = newest (pair_in m.pair ∷ round) ms

abbrev pub or_no_members : Option (List Member) → List Member
or_no_members None = []
or_no_members (Some ms) = ms

-- the present round of a key, the oldest first
abbrev pub round_at : RoundKey → List (RoundKey × List Member) → List Member
round_at key entries = or_no_members (lookup (is_same_round key) entries)

abbrev pub AreNumbered : List Member → Type 0
AreNumbered [] = Unit {0}
AreNumbered (m ∷ ms) = (m.number ≡ number_in (pair_in m.pair)) × AreNumbered ms

-- each key has its present round
abbrev pub HasRounds : List AllocationOf → List (RoundKey × List Member) → Type 0
HasRounds down entries = (handset : List ℕ) (k : Key)
    → (newest [] (round_at (round_key handset k) entries) ≡ (rounds_of handset k down).present) × AreNumbered (round_at (round_key handset k) entries)

abbrev pub member_numbers : List Member → List ℕ
member_numbers [] = []
member_numbers (m ∷ ms) = m.number ∷ member_numbers ms

-- one of these is the part of that number, and it was accepted
abbrev pub arrived_in : ℕ → List Member → List (Pair × Unit {0}) → Bool
arrived_in n [] accepted = false
arrived_in n (m ∷ ms) accepted = ((m.number == n) && is_accepted m.pair accepted) || arrived_in n ms accepted

abbrev pub all_arrived_in : ℕ → List Member → List (Pair × Unit {0}) → Bool
all_arrived_in zero ms accepted = true
all_arrived_in (suc n) ms accepted = arrived_in (suc n) ms accepted && all_arrived_in n ms accepted

-- a part of that place joins the round, or begins the next where it may
abbrev pub begins_in : Place → List Member → List (Pair × Unit {0}) → Bool
begins_in place ms accepted = if is_among place.number (member_numbers ms) then all_arrived_in place.key.total ms accepted else true

-- a part joins the present round of its key, or begins the next
abbrev pub with_member : Member → List Member → List Member
with_member m ms = if is_among m.number (member_numbers ms) then m ∷ [] else ms ++ m ∷ []

-- the round of that key has one part more, or a new one has begun, and the others are as they were
abbrev pub IsPut : RoundKey → Member → List (RoundKey × List Member) → List (RoundKey × List Member) → Type 0
IsPut key m old new = (k : RoundKey) → round_at k new ≡ (if is_same_round key k then with_member m (round_at key old) else round_at k old)

-- ---- all of it

-- these references were given, these parts submitted and these accepted
pub record Watches (given : List GivenRow) (down : List AllocationOf) (accepted : List Accepted) (w : Watch) : Type 0 where
  pub holders : HasHolders given w.holders.entries
  pub rounds : HasRounds down w.rounds.entries
  pub pairs : HasAccepted accepted w.accepted.entries

-- a reference is given to a part that is offered so
abbrev pub IsPart : Holder → Type 0
IsPart (Part id number) = Unit {0}
IsPart (Report id) = ⊥
IsPart (Entry number) = ⊥
IsPart (Memory number) = ⊥

pub record Offers (p : Accepted) (g : AllocationOf) : Type 0 where
  pub part : IsPart g.holder
  pub pair : pair_given g ≡ p

-- a place of the definition, as it is kept
abbrev pub IsPlacedAs : Place → List ℕ → PlaceOf → Type 0
IsPlacedAs place handset p = place ≡ record { key = round_key handset p.key; number = p.number }
