-- References of a handset (3GPP TS 24.011 8.2.3): which may be given, the next that may, and giving it.
use Rattle.std.specs.Prelude.{◌≡◌, ◌<◌, ℕ, zero, suc, ◌+◌, ◌%◌, ◌==◌, ◌&&◌, ◌||◌, not, nat_le, List, [], ◌∷◌, slice_get, Bool, false, if◌then◌else◌, Option}
use Rattle.std.specs.Prelude.{Some, None}
use Rattle.std.specs.Str.{bytes_eq}
use Rattle.sms_rows.specs.table.Keys.{pair_key}
use Rattle.sms_rows.specs.table.Since.{Since, put_in, rows_of}
use Rattle.sms_rows.specs.table.Table.{row_at}
use Rattle.sms_centre_rows.specs.declared.waiting.handset.HandsetRow.{HandsetRow}
use Rattle.sms_centre_rows.specs.declared.waiting.queued_part.QueuedPart.{QueuedPart}
use Rattle.sms_centre_rows.specs.declared.waiting.reference.ReferenceRow.{ReferenceRow}
use Rattle.sms_centre_rows.specs.waiting.Keys.{handset_key, reference_key}

-- ---- handsets, in the order in which they were mentioned first

abbrev pub handset_at : List ℕ → List HandsetRow → Option HandsetRow
handset_at number [] = None
handset_at number (h ∷ hs) = if bytes_eq h.number number then Some h else handset_at number hs

-- the place after the last
abbrev pub place_after : ℕ → List HandsetRow → ℕ
place_after place [] = place
place_after place (h ∷ hs) = place_after (h.place + 1) hs

-- a handset that was given no reference takes the next place, and reference 0 is next there
abbrev pub or_new_handset : List ℕ → ℕ → Option HandsetRow → HandsetRow
or_new_handset number place None = record { place = place; number = number; last_reference = 255 }
or_new_handset number place (Some h) = h

abbrev pub handset_of : List ℕ → List HandsetRow → HandsetRow
handset_of number hs = or_new_handset number (place_after 1 hs) (handset_at number hs)

-- ---- which may be given

-- something that waits there holds it
abbrev pub is_held : ℕ → List QueuedPart → Bool
is_held reference [] = false
is_held reference (l ∷ ls) = (l.reference == reference) || is_held reference ls

-- the flags of all references say which of them are held
abbrev pub AreHeld : List Bool → List QueuedPart → Type 0
AreHeld held waiting = (r : ℕ) → r < 256 → slice_get held r ≡ Some (is_held r waiting)

-- it was not given last in an earlier second
abbrev pub is_late : ℕ → Option ReferenceRow → Bool
is_late moment None = false
is_late moment (Some r) = nat_le moment r.last

abbrev pub is_free : HandsetRow → List QueuedPart → List ReferenceRow → ℕ → ℕ → Bool
is_free h waiting references moment reference =
    not (is_held reference waiting) && not (is_late moment (row_at reference_key (pair_key h.place reference) references))

-- ---- the next one

abbrev pub following : ℕ → ℕ
following reference = (reference + 1) % 256

-- the first of so many from that one on, around from 255 to 0, that passes
unfoldable pub first_passing : (ℕ → Bool) → ℕ → ℕ → Option ℕ
first_passing passes zero reference = None
first_passing passes (suc turns) reference = if passes reference then Some reference else first_passing passes turns (following reference)

-- the next after the one that was given last
abbrev pub next_reference : HandsetRow → List QueuedPart → List ReferenceRow → ℕ → Option ℕ
next_reference h waiting references moment = first_passing (is_free h waiting references moment) 256 (following h.last_reference)

-- ---- giving it

-- the handsets and the references that were given, in the middle of an event
pub record Allocations : Type 0 where
  pub handsets : Since HandsetRow
  pub references : Since ReferenceRow

abbrev pub handsets_of : Allocations → List HandsetRow
handsets_of g = rows_of handset_key g.handsets

abbrev pub references_of : Allocations → List ReferenceRow
references_of g = rows_of reference_key g.references

abbrev pub mentioned : HandsetRow → ℕ → HandsetRow
mentioned h reference = record h { last_reference = reference }

abbrev pub given_row : HandsetRow → ℕ → ℕ → ReferenceRow
given_row h reference moment = record { place = h.place; reference = reference; last = moment }

abbrev pub give : HandsetRow → ℕ → ℕ → Allocations → Allocations
give h reference moment g = record {
  handsets = put_in (mentioned h reference) g.handsets;
  references = put_in (given_row h reference moment) g.references;
}
