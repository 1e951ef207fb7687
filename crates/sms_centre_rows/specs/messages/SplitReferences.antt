-- The references under which the centre splits messages (3GPP TS 23.040 9.2.3.24.8), of each source and handset.
use Rattle.std.specs.Prelude.{ℕ, zero, suc, ◌+◌, ◌%◌, ◌==◌, ◌&&◌, ◌||◌, not, List, [], ◌∷◌, ◌++◌, Bool, true, false, if◌then◌else◌, Option, Some}
use Rattle.std.specs.Prelude.{None}
use Rattle.std.specs.Str.{bytes_eq}
use Rattle.sms_base.specs.declared.address.Address.{Address}
use Rattle.sms_base.specs.declared.final_state.FinalState.{FinalState}
use Rattle.sms_base.specs.declared.final_state.FinalState.TheVariants.{Delivered, Expired, Deleted, Undeliverable}
use Rattle.sms_alphabet.specs.declared.concat_key.ConcatKey.{ConcatKey}
use Rattle.sms_alphabet.specs.declared.concat_key.ConcatReference.{ConcatReference}
use Rattle.sms_alphabet.specs.declared.concat_key.ConcatReference.TheVariants.{EightBit, SixteenBit}
use Rattle.sms_centre_rows.specs.declared.messages.bar.BarRow.{BarRow}
use Rattle.sms_centre_rows.specs.declared.messages.message.MessageRow.{MessageRow}
use Rattle.sms_centre_rows.specs.declared.messages.part.PartRow.{PartRow}
use Rattle.sms_base.specs.AddressKind.{type_number}
use Rattle.sms_centre_rows.specs.messages.Messages.{message_at}

abbrev pub is_same_address : Address → Address → Bool
is_same_address a b = (type_number a.ton == type_number b.ton) && ((a.npi == b.npi) && bytes_eq a.digits b.digits)

abbrev pub is_between : Address → List ℕ → MessageRow → Bool
is_between source handset m = is_same_address m.source source && bytes_eq m.handset handset

abbrev pub is_delivered : Option FinalState → Bool
is_delivered None = false
is_delivered (Some Delivered) = true
is_delivered (Some Expired) = false
is_delivered (Some Deleted) = false
is_delivered (Some Undeliverable) = false

abbrev pub is_among : ℕ → List ℕ → Bool
is_among n [] = false
is_among n (m ∷ ms) = (m == n) || is_among n ms

abbrev pub optional : Option ℕ → List ℕ → List ℕ
optional None ns = ns
optional (Some n) ns = n ∷ ns

-- what messages that are not wholly delivered hold
abbrev pub held_splits : Address → List ℕ → List MessageRow → List ℕ
held_splits source handset [] = []
held_splits source handset (m ∷ ms) =
    if is_between source handset m && not (is_delivered m.state) then optional m.split_reference (held_splits source handset ms)
    else held_splits source handset ms

-- the last one that was given; numbers of messages rise
abbrev pub or_later : Option ℕ → Option ℕ → Option ℕ
or_later earlier None = earlier
or_later earlier (Some n) = Some n

abbrev pub last_split : Address → List ℕ → Option ℕ → List MessageRow → Option ℕ
last_split source handset last [] = last
last_split source handset last (m ∷ ms) =
    last_split source handset (if is_between source handset m then or_later last m.split_reference else last) ms

-- ---- the references of headers that a submission had

abbrev pub wide_reference : ConcatReference → Option ℕ
wide_reference (EightBit reference) = None
wide_reference (SixteenBit reference) = Some reference

abbrev pub wide_in : Option ConcatKey → Option ℕ
wide_in None = None
wide_in (Some key) = wide_reference key.reference

-- the message was submitted with the header where it has no split reference
abbrev pub unless_split : Option ℕ → Option ℕ → Option ℕ
unless_split None wide = wide
unless_split (Some split) wide = None

abbrev pub own_wide : Address → List ℕ → PartRow → Option MessageRow → Option ℕ
own_wide source handset p None = None
own_wide source handset p (Some m) = if is_between source handset m then unless_split m.split_reference (wide_in p.key) else None

abbrev pub own_splits : Address → List ℕ → List MessageRow → List PartRow → List ℕ
own_splits source handset messages [] = []
own_splits source handset messages (p ∷ ps) =
    optional (own_wide source handset p (message_at p.id messages)) (own_splits source handset messages ps)

-- ---- the references that stay barred once their messages are forgotten

abbrev pub is_bar_between : Address → List ℕ → BarRow → Bool
is_bar_between source handset b = is_same_address b.source source && bytes_eq b.handset handset

-- the centre gave it
abbrev pub is_held_bar : Address → List ℕ → BarRow → Bool
is_held_bar source handset b = is_bar_between source handset b && not b.is_own

-- the header of a submission had it
abbrev pub is_own_bar : Address → List ℕ → BarRow → Bool
is_own_bar source handset b = is_bar_between source handset b && b.is_own

abbrev pub references_in : (BarRow → Bool) → List BarRow → List ℕ
references_in test [] = []
references_in test (b ∷ bs) = if test b then b.reference ∷ references_in test bs else references_in test bs

abbrev pub held_bars : Address → List ℕ → List BarRow → List ℕ
held_bars source handset bars = references_in (is_held_bar source handset) bars

abbrev pub own_bars : Address → List ℕ → List BarRow → List ℕ
own_bars source handset bars = references_in (is_own_bar source handset) bars

-- ---- the next one

abbrev pub start_after : Option ℕ → ℕ
start_after None = 0
start_after (Some n) = (n + 1) % 65536

-- the first of so many from that one on, around from 65535 to 0, that is not barred
unfoldable pub first_free_split : ℕ → ℕ → List ℕ → Option ℕ
first_free_split zero reference barred = None
first_free_split (suc turns) reference barred =
    if is_among reference barred then first_free_split turns ((reference + 1) % 65536) barred else Some reference

-- how many references of 16 bits there are
unfoldable pub all_references : ℕ
all_references = 65536

-- all of them are tried
abbrev pub next_among : Option ℕ → List ℕ → Option ℕ
next_among last barred = first_free_split all_references (start_after last) barred

abbrev pub held_references : Address → List ℕ → List BarRow → List MessageRow → List ℕ
held_references source handset bars messages = held_splits source handset messages ++ held_bars source handset bars

abbrev pub own_references : Address → List ℕ → List BarRow → List MessageRow → List PartRow → List ℕ
own_references source handset bars messages parts = own_splits source handset messages parts ++ own_bars source handset bars

abbrev pub next_split : Address → List ℕ → List BarRow → List MessageRow → List PartRow → Option ℕ
next_split source handset bars messages parts =
    next_among (last_split source handset None messages)
    (held_references source handset bars messages ++ own_references source handset bars messages parts)

-- ---- a header that a submission had: the centre gave its reference to a message that was not wholly delivered

abbrev pub is_taken : Option ℕ → List ℕ → Bool
is_taken None held = false
is_taken (Some reference) held = is_among reference held
