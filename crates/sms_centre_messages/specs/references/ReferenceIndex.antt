-- What messages lay claim to, as counts of messages and parts, and what memory has of it.
use Rattle.std.specs.Prelude.{◌≡◌, ℕ, ◌+◌, ◌-◌, ◌<◌, ◌==◌, ◌&&◌, ◌||◌, not, nat_lt, List, [], ◌∷◌, length, Bool, false, if◌then◌else◌, Option, Some, None}
use Rattle.std.specs.Str.{bytes_eq}
use Rattle.sms_base.specs.AddressKind.{type_number}
use Rattle.sms_base.specs.Among.{Among}
use Rattle.sms_base.specs.declared.final_state.FinalState.{FinalState}
use Rattle.sms_base.specs.declared.originator.Originator.{Originator}
use Rattle.sms_base.specs.declared.originator.Originator.TheVariants.{Application, Handset}
use Rattle.sms_alphabet.specs.declared.concat_key.ConcatKey.{ConcatKey}
use Rattle.sms_rows.specs.declared.table.change.Change.{Change}
use Rattle.sms_rows.specs.declared.table.change.Change.TheVariants.{Put, Remove}
use Rattle.sms_centre_rows.specs.declared.messages.bar.BarRow.{BarRow}
use Rattle.sms_centre_rows.specs.declared.messages.message.MessageRow.{MessageRow}
use Rattle.sms_centre_rows.specs.declared.messages.part.PartRow.{PartRow}
use Rattle.sms_centre_rows.specs.messages.Bars.{next_bar}
use Rattle.sms_centre_rows.specs.messages.Messages.{is_pending, message_at}
use Rattle.sms_centre_rows.specs.messages.SplitReferences.{is_delivered, last_split, unless_split, wide_in}
use Rattle.sms_base.specs.declared.address.Address.{Address}
use Rattle.sms_centre_messages.specs.declared.references.message_ends.MessageEnds.{MessageEnds}
use Rattle.sms_centre_messages.specs.references.Counts.{CountsOf, counted, one_if}
use Rattle.sms_centre_messages.specs.references.Keys.{is_same_sender, key_of, pair_of}

abbrev pub total : {A : Type 0} → (A → ℕ) → List A → ℕ
total f [] = 0
total f (x ∷ xs) = f x + total f xs

-- ---- of one message

-- it is of the key's source and handset
abbrev pub is_of : MessageEnds → MessageRow → Bool
is_of key m =
    is_same_sender (record { type_of_number = type_number m.source.ton; plan = m.source.npi; digits = record { digits = m.source.digits } }) key.source
    && bytes_eq m.handset key.handset

abbrev pub is_reference : ℕ → Option ℕ → Bool
is_reference n None = false
is_reference n (Some reference) = reference == n

-- it was split under the key's reference, and isn't wholly delivered
abbrev pub holds : MessageEnds → MessageRow → ℕ
holds key m = one_if (is_of key m && (not (is_delivered m.state) && is_reference key.number m.split_reference))

-- ---- of one part

-- the 16-bit reference that was submitted with its message
abbrev pub wide_of : MessageEnds → PartRow → Option MessageRow → Option ℕ
wide_of key p None = None
wide_of key p (Some m) = if is_of key m then unless_split m.split_reference (wide_in p.key) else None

abbrev pub submitted_with : MessageEnds → List MessageRow → PartRow → ℕ
submitted_with key ms p = one_if (is_reference key.number (wide_of key p (message_at p.id ms)))

-- ---- of one bar

-- it is of the key's source and handset, and of its reference
abbrev pub is_at : MessageEnds → BarRow → Bool
is_at key b =
    is_same_sender (record { type_of_number = type_number b.source.ton; plan = b.source.npi; digits = record { digits = b.source.digits } }) key.source
    && (bytes_eq b.handset key.handset && (b.reference == key.number))

-- the centre gave it, or a header had it
abbrev pub is_held_at : MessageEnds → BarRow → Bool
is_held_at key b = is_at key b && not b.is_own

abbrev pub is_own_at : MessageEnds → BarRow → Bool
is_own_at key b = is_at key b && b.is_own

-- one of them passes
abbrev pub any : {A : Type 0} → (A → Bool) → List A → Bool
any test [] = false
any test (x ∷ xs) = test x || any test xs

-- ---- messages of handsets

abbrev pub is_from_handset : ℕ → Originator → Bool
is_from_handset reference (Application account) = false
is_from_handset reference (Handset n) = reference == n

-- it is pending, and from the handset of these digits under that TP-MR
abbrev pub repeats : List ℕ → List ℕ → ℕ → MessageRow → Bool
repeats source handset reference m =
    is_pending m && (is_from_handset reference m.originator && (bytes_eq source m.source.digits && bytes_eq handset m.handset))

-- such a message is there
abbrev pub has_pending : List ℕ → List ℕ → ℕ → List MessageRow → Bool
has_pending source handset reference [] = false
has_pending source handset reference (m ∷ ms) = repeats source handset reference m || has_pending source handset reference ms

-- ---- what memory has

pub record ReferenceIndexOf : Type 0 where
  -- of each reference of a source and a handset, how many messages hold it
  pub held : CountsOf
  -- how many parts were submitted with it
  pub own : CountsOf
  -- the reference that was given last, and one more
  pub last : CountsOf
  -- of each TP-MR, how many messages are pending
  pub pending : CountsOf
  -- of each reference of a source and a handset, some where a bar stands
  pub held_bars : CountsOf
  pub own_bars : CountsOf
  -- the place of the last bar, or 0
  pub last_bar : ℕ

abbrev pub last_code : Option ℕ → ℕ
last_code None = 0
last_code (Some reference) = reference + 1

-- It is what these rows lay claim to. Where a bar stands, nothing is said of what messages lay claim to.
pub record Represents (k : ReferenceIndexOf) (bs : List BarRow) (ms : List MessageRow) (ps : List PartRow) : Type 0 where
  pub held : (key : MessageEnds) → any (is_held_at key) bs ≡ false → counted key k.held ≡ total (holds key) ms
  pub own : (key : MessageEnds) → any (is_own_at key) bs ≡ false → counted key k.own ≡ total (submitted_with key ms) ps
  pub held_bars : (key : MessageEnds) → nat_lt 0 (counted key k.held_bars) ≡ any (is_held_at key) bs
  pub own_bars : (key : MessageEnds) → nat_lt 0 (counted key k.own_bars) ≡ any (is_own_at key) bs
  pub next : k.last_bar + 1 ≡ next_bar bs
  pub last : (source : Address) (handset : List ℕ) → counted (key_of source handset 0) k.last ≡ last_code (last_split source handset None ms)
  pub pending : (source handset : List ℕ) (reference : ℕ)
      → counted (pair_of source handset reference) k.pending ≡ total (λ m. one_if (repeats source handset reference m)) ms

-- the bars are as they were
pub record SameBars (old new : ReferenceIndexOf) : Type 0 where
  pub held : new.held_bars ≡ old.held_bars
  pub own : new.own_bars ≡ old.own_bars
  pub last : new.last_bar ≡ old.last_bar

-- ---- moves

-- the message is the newest: its number is greater than all others, and it has no parts yet
pub record IsNewest (m : MessageRow) (ms : List MessageRow) (ps : List PartRow) : Type 0 where
  pub last : (other : MessageRow) → Among other ms → other.id < m.id
  pub no_parts : (p : PartRow) → Among p ps → ¬ (p.id ≡ m.id)

-- there are fewer than numbers of 64 bits
abbrev pub AreFew : List MessageRow → List PartRow → Type 0
AreFew ms ps = length ms + length ps < 18446744073709551615

-- ---- what a message brings

-- the counts of references grow by what it holds
abbrev pub HoldsMore : MessageRow → CountsOf → CountsOf → Type 0
HoldsMore m old new = (key : MessageEnds) → counted key old < 18446744073709551615 → counted key new ≡ counted key old + holds key m

abbrev pub code_or : ℕ → Option ℕ → ℕ
code_or earlier None = earlier
code_or earlier (Some reference) = reference + 1

-- its reference is the last one
abbrev pub GivesLast : MessageRow → CountsOf → CountsOf → Type 0
GivesLast m old new =
    (source : Address) (handset : List ℕ)
    → counted (key_of source handset 0) new
    ≡ (if is_of (key_of source handset 0) m then code_or (counted (key_of source handset 0) old) m.split_reference else counted (key_of source handset 0) old)

abbrev pub PendsMore : MessageRow → CountsOf → CountsOf → Type 0
PendsMore m old new =
    (source handset : List ℕ) (reference : ℕ) → counted (pair_of source handset reference) old < 18446744073709551615
    → counted (pair_of source handset reference) new ≡ counted (pair_of source handset reference) old + one_if (repeats source handset reference m)

-- the message is there, but no part of it
pub record Entered (m : MessageRow) (old new : ReferenceIndexOf) : Type 0 where
  pub held : HoldsMore m old.held new.held
  pub last : GivesLast m old.last new.last
  pub pending : PendsMore m old.pending new.pending
  pub own : new.own ≡ old.own
  pub bars : SameBars old new

-- ---- what a message that ends releases

-- the message but for its end
abbrev pub still : MessageRow → MessageRow
still m = record m { state = None; done = None }

abbrev pub HoldsLess : MessageRow → FinalState → CountsOf → CountsOf → Type 0
HoldsLess m state old new = (key : MessageEnds) → counted key new ≡ counted key old - (if is_delivered (Some state) then holds key m else 0)

abbrev pub PendsLess : MessageRow → CountsOf → CountsOf → Type 0
PendsLess m old new =
    (source handset : List ℕ) (reference : ℕ)
    → counted (pair_of source handset reference) new ≡ counted (pair_of source handset reference) old - one_if (repeats source handset reference m)

pub record Ended (m : MessageRow) (state : FinalState) (old new : ReferenceIndexOf) : Type 0 where
  pub held : HoldsLess m state old.held new.held
  pub pending : PendsLess m old.pending new.pending
  pub last : new.last ≡ old.last
  pub own : new.own ≡ old.own
  pub bars : SameBars old new

-- ---- what a part of that key brings, whose message it is

abbrev pub BringsOwn : MessageRow → Option ConcatKey → CountsOf → CountsOf → Type 0
BringsOwn m key old new =
    (between : MessageEnds) → counted between old < 18446744073709551615
    → counted between new ≡ counted between old + one_if
    (is_reference between.number (if is_of between m then unless_split m.split_reference (wide_in key) else None))

pub record Brought (m : MessageRow) (key : Option ConcatKey) (old new : ReferenceIndexOf) : Type 0 where
  pub own : BringsOwn m key old.own new.own
  pub held : new.held ≡ old.held
  pub last : new.last ≡ old.last
  pub pending : new.pending ≡ old.pending
  pub bars : SameBars old new

-- ---- what bars bring

abbrev pub is_put : (BarRow → Bool) → Change BarRow → Bool
is_put test (Put b) = test b
is_put test (Remove n) = false

abbrev pub last_place : ℕ → List (Change BarRow) → ℕ
last_place place [] = place
last_place place (Put b ∷ cs) = last_place b.place cs
last_place place (Remove n ∷ cs) = last_place place cs

-- each that is put stands, and what messages lay claim to is as it was
pub record Barred (changes : List (Change BarRow)) (old new : ReferenceIndexOf) : Type 0 where
  pub held : (key : MessageEnds) → counted key new.held ≡ counted key old.held
  pub own : (key : MessageEnds) → counted key new.own ≡ counted key old.own
  pub held_bars : (key : MessageEnds)
      → nat_lt 0 (counted key new.held_bars) ≡ (nat_lt 0 (counted key old.held_bars) || any (is_put (is_held_at key)) changes)
  pub own_bars : (key : MessageEnds)
      → nat_lt 0 (counted key new.own_bars) ≡ (nat_lt 0 (counted key old.own_bars) || any (is_put (is_own_at key)) changes)
  pub last_bar : new.last_bar ≡ last_place old.last_bar changes
  pub last : (key : MessageEnds) → counted key new.last ≡ counted key old.last
  pub pending : (key : MessageEnds) → counted key new.pending ≡ counted key old.pending
