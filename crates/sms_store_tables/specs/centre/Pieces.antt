-- What the store has in several columns, or as a word.
pub use Rattle.sms_store_tables.specs.References.{IsStoredReference, reference_bits, reference_number}
use Rattle.std.specs.Prelude.{◌≡◌, ℕ, ◌+◌, ⊤, if◌then◌else◌, List, [], ◌∷◌, codes, Option, Some, None, refl}
use Rattle.sqlite.specs.Order.{Row}
use Rattle.sqlite.specs.declared.types.Value.{Value}
use Rattle.sqlite.specs.declared.types.Value.TheVariants.{Null, Blob}
use Rattle.sqlite.specs.Cast.{cast}
use Rattle.sqlite.specs.Kind.TheVariants.{Integer}
use Rattle.sqlite_sql.specs.Ops.{is_null}
use Rattle.sms_base.specs.TimeStamp.{IsMoment}
use Rattle.sms_store_sql.specs.listing.Columns.{IsOctet, number, number_in, octets_in, flag, flag_in, or_none, is_word}
use Rattle.sms_store_sql.specs.listing.Reading.{HasAt}
use Rattle.sms_store_sql.proofs.listing.Columns.{cast_int, cast_null, flag_back}
use Rattle.sms_store_tables.specs.References.{reference_back, reference_in}
use Rattle.sms_store_tables.specs.centre.Types.{FinalState, Delivered, Expired, Deleted, Undeliverable, ConcatKey}
use Rattle.sms_store_tables.specs.centre.Types.{Originator, Application, Handset, Wish, Nothing, Always, OnFailure, ReportKind, Receipt, Status, Unsent}
use Rattle.sms_store_tables.specs.centre.Types.{Progress}

-- ---- the place of a part in a long message

-- none where its first column is NULL
abbrev pub key_in : Value → Value → Value → Value → Option ConcatKey
key_in bits reference total part =
    if is_null bits then None else Some (record { reference = reference_in bits reference; total = number_in total; number = number_in part })

-- a part in its ranges
pub record IsStoredKey (key : ConcatKey) : Type 0 where
  pub reference : IsStoredReference key.reference
  pub total : IsOctet key.total
  pub number : IsOctet key.number

-- the four columns of such a place, from this one on
pub record HasKey (row : Row) (at : ℕ) (key : Option ConcatKey) : Type 0 where
  pub bits : HasAt row at (or_none (λ (k : ConcatKey). number (reference_bits k.reference)) key)
  pub reference : HasAt row (at + 1) (or_none (λ (k : ConcatKey). number (reference_number k.reference)) key)
  pub total : HasAt row (at + 2) (or_none (λ (k : ConcatKey). number k.total) key)
  pub number_is : HasAt row (at + 3) (or_none (λ (k : ConcatKey). number k.number) key)

pub key_back : (key : Option ConcatKey)
    → key_in (or_none (λ (k : ConcatKey). number (reference_bits k.reference)) key) (or_none (λ (k : ConcatKey). number (reference_number k.reference)) key)
    (or_none (λ (k : ConcatKey). number k.total) key)
    (or_none (λ (k : ConcatKey). number k.number) key) ≡ key
key_back None = refl
key_back (Some k) = let r = reference_back k.reference in λ i. Some (record { reference = r i; total = k.total; number = k.number })

-- ---- how far a transfer is

abbrev pub progress_in : Value → Value → Value → Progress
progress_in done attempts due = record { is_done = flag_in done; attempts = number_in attempts; due = number_in due }

pub record IsStoredProgress (p : Progress) : Type 0 where
  pub attempts : IsOctet p.attempts
  pub due : IsMoment p.due

pub progress_back : (p : Progress) → progress_in (flag p.is_done) (number p.attempts) (number p.due) ≡ p
progress_back p = let f = flag_back p.is_done in λ i. record { is_done = f i; attempts = p.attempts; due = p.due }

abbrev pub progress_columns : Progress → Row
progress_columns p = flag p.is_done ∷ number p.attempts ∷ number p.due ∷ []

abbrev pub progress_names : List (List ℕ)
progress_names = codes "is_done" ∷ codes "attempts" ∷ codes "due" ∷ []

-- ---- who submitted a message

abbrev pub account_of : Originator → Value
account_of (Application account) = Blob account
account_of (Handset reference) = Null

abbrev pub mark_of : Originator → Value
mark_of (Application account) = Null
mark_of (Handset reference) = number reference

abbrev pub originator_in : Value → Value → Originator
originator_in account reference = if is_null account then Handset (number_in reference) else Application (octets_in account)

-- a handset by a TP-MR, which is an octet
abbrev pub IsStoredOriginator : Originator → Type 0
IsStoredOriginator (Application account) = ⊤
IsStoredOriginator (Handset reference) = IsOctet reference

pub originator_back : (o : Originator) → originator_in (account_of o) (mark_of o) ≡ o
originator_back (Application account) = refl
originator_back (Handset reference) = refl

pub mark_stays : (o : Originator) → cast Integer (mark_of o) ≡ mark_of o
mark_stays (Application account) = cast_null
mark_stays (Handset reference) = cast_int _

-- ---- which ends are reported to the originator

abbrev pub wish_word : Wish → List ℕ
wish_word Nothing = codes "nothing"
wish_word Always = codes "always"
wish_word OnFailure = codes "on_failure"

abbrev pub wish_in : List ℕ → Wish
wish_in word = if is_word (codes "nothing") word then Nothing else if is_word (codes "always") word then Always else OnFailure

pub wish_back : (w : Wish) → wish_in (wish_word w) ≡ w
wish_back Nothing = refl
wish_back Always = refl
wish_back OnFailure = refl

-- ---- how a message ended

abbrev pub state_word : Option FinalState → List ℕ
state_word None = codes "pending"
state_word (Some Delivered) = codes "delivered"
state_word (Some Expired) = codes "expired"
state_word (Some Deleted) = codes "deleted"
state_word (Some Undeliverable) = codes "undeliverable"

abbrev pub state_in : List ℕ → Option FinalState
state_in word =
    if is_word (codes "pending") word then None
    else if is_word (codes "delivered") word then Some Delivered
    else if is_word (codes "expired") word then Some Expired
    else if is_word (codes "deleted") word then Some Deleted
    else Some Undeliverable

pub state_back : (s : Option FinalState) → state_in (state_word s) ≡ s
state_back None = refl
state_back (Some Delivered) = refl
state_back (Some Expired) = refl
state_back (Some Deleted) = refl
state_back (Some Undeliverable) = refl

-- ---- how an end is reported

abbrev pub kind_word : ReportKind → List ℕ
kind_word Receipt = codes "receipt"
kind_word (Status reference tpdu) = codes "status"
kind_word Unsent = codes "unsent"

abbrev pub kind_reference : ReportKind → Value
kind_reference Receipt = Null
kind_reference (Status reference tpdu) = number reference
kind_reference Unsent = Null

abbrev pub kind_tpdu : ReportKind → Value
kind_tpdu Receipt = Null
kind_tpdu (Status reference tpdu) = Blob tpdu
kind_tpdu Unsent = Null

abbrev pub kind_in : List ℕ → Value → Value → ReportKind
kind_in word reference tpdu =
    if is_word (codes "receipt") word then Receipt
    else if is_word (codes "status") word then Status (number_in reference) (octets_in tpdu)
    else Unsent

-- a status report by a reference, which is an octet
abbrev pub IsStoredKind : ReportKind → Type 0
IsStoredKind Receipt = ⊤
IsStoredKind (Status reference tpdu) = IsOctet reference
IsStoredKind Unsent = ⊤

pub kind_back : (k : ReportKind) → kind_in (kind_word k) (kind_reference k) (kind_tpdu k) ≡ k
kind_back Receipt = refl
kind_back (Status reference tpdu) = refl
kind_back Unsent = refl

pub reference_stays : (k : ReportKind) → cast Integer (kind_reference k) ≡ kind_reference k
reference_stays Receipt = cast_null
reference_stays (Status reference tpdu) = cast_int _
reference_stays Unsent = cast_null
