-- The number of the message at a place.
use Rattle.std.proofs.Common.{◌≡◌, ℕ, zero, suc, ◌+◌, ◌-◌, ◌≤◌, List, [], ◌∷◌, map, length, length-drop, drop, Option, Some, None, Bool, true, false, refl, sym, ◌∙◌, ap, subst, arith}
use Rattle.std.specs.List.{slice_get}
use Rattle.std.specs.Prelude.{nat_lt, if◌then◌else◌}
use Rattle.std.proofs.lemmas.List.{length-map}
use Rattle.sms_rows.specs.table.Keys.{pair_key}
use Rattle.sms_rows.specs.table.Table.{rows_before, rows_between, rows_from}
use Rattle.sms_centre_rows.specs.declared.messages.part.PartRow.{PartRow}
use Rattle.sms_centre_rows.specs.declared.messages.parts.PartEntry.{PartEntry}
use Rattle.sms_centre_rows.specs.messages.Messages.{message_key, part_key}
use Rattle.sms_centre_rows.specs.messages.PartEntries.{entry_key, part_entry}
use Rattle.sms_centre_messages.specs.message_index.Forgettable.{count_parts}
use Rattle.sms_centre_rows.specs.declared.messages.message.MessageRow.{MessageRow}
use Rattle.sms_centre_spec.specs.forgetting.Forget.{first_number}
use Rattle.sms_centre_messages.specs.declared.message_index.message_entry.MessageEntry.{MessageEntry}
use Rattle.sms_centre_messages.specs.message_index.Entries.{AreEntries, NamesOf, message_entry_key}
use Rattle.sms_centre_messages.proofs.message_index.Between.{get_behind}
use Rattle.sms_centre_messages.proofs.message_index.Entries.{same_key}
use Rattle.sms_centre_messages.proofs.message_index.IndexRepresents.{no_row, placed_row}
use Rattle.sms_centre_messages.proofs.message_index.Places.{get_beyond}

abbrev number_of : Option MessageRow → ℕ
number_of None = 0
number_of (Some m) = m.id

first_behind : (place : ℕ) (ms : List MessageRow) → first_number (drop place ms) ≡ number_of (slice_get ms place)
first_behind zero [] = refl
first_behind zero (m ∷ ms) = refl
first_behind (suc place) [] = refl
first_behind (suc place) (m ∷ ms) = first_behind place ms

pub numbered : (names : NamesOf) (place : ℕ) (es : List MessageEntry) (ms : List MessageRow) (e : MessageEntry) → AreEntries names es ms → slice_get es place ≡ Some e
    → e.id ≡ first_number (drop place ms)
numbered names place es ms e are at =
    let f = placed_row names place es ms e are at in
    sym (first_behind place ms ∙ ap (λ (o : Option MessageRow). number_of o) f.1.0 ∙ ap (λ (m : MessageRow). m.id) f.1.1.row)

pub unnumbered : (names : NamesOf) (place : ℕ) (es : List MessageEntry) (ms : List MessageRow) → AreEntries names es ms → slice_get es place ≡ None → 0 ≡ first_number (drop place ms)
unnumbered names place es ms are at = sym (first_behind place ms ∙ ap (λ (o : Option MessageRow). number_of o) (no_row names place es ms are at))

-- the entry at a place behind the first one from a key on
pub entry_behind : (n start most : ℕ) (es : List MessageEntry) → drop start es ≡ rows_from message_entry_key n es → slice_get (rows_from message_entry_key n es) most ≡ slice_get es (start + most)
entry_behind n start most es from = ap (λ (l : List MessageEntry). slice_get l most) (sym from) ∙ get_behind start most es

pub none_behind : (n start most : ℕ) (es : List MessageEntry) → drop start es ≡ rows_from message_entry_key n es → length es - start ≤ most → slice_get (rows_from message_entry_key n es) most ≡ None
none_behind n start most es from few =
    let count : length (drop start es) ≡ length (rows_from message_entry_key n es) = ap (λ (l : List MessageEntry). length l) from in
    let rest = length-drop start es in
    get_beyond (rows_from message_entry_key n es) most (omega (arith, count, rest, few))

pub entries_behind : (names : NamesOf) (n : ℕ) (es : List MessageEntry) (ms : List MessageRow) → AreEntries names es ms → AreEntries names (rows_from message_entry_key n es) (rows_from message_key n ms)
entries_behind names n [] [] are = are
entries_behind names n [] (m ∷ ms) are = elim are [ ]
entries_behind names n (e ∷ es) [] are = elim are [ ]
entries_behind names n (e ∷ es) (m ∷ ms) are =
    subst (λ (k : ℕ). AreEntries names (if nat_lt e.id n then rows_from message_entry_key n es else e ∷ es) (if nat_lt k n then rows_from message_key n ms else m ∷ ms)) (same_key names e m are.0)
    (by (nat_lt e.id n) (entries_behind names n es ms are.1)) where
      by : (b : Bool) → AreEntries names (rows_from message_entry_key n es) (rows_from message_key n ms)
          → AreEntries names (if b then rows_from message_entry_key n es else e ∷ es) (if b then rows_from message_key n ms else m ∷ ms)
      by true h = h
      by false h = are

-- ---- how many parts

pub entries_from : (n : ℕ) (ps : List PartRow) → rows_from entry_key n (map part_entry ps) ≡ map part_entry (rows_from part_key n ps)
entries_from n [] = refl
entries_from n (p ∷ ps) = by (nat_lt (part_key p) n) (entries_from n ps) where
  by : (b : Bool) → rows_from entry_key n (map part_entry ps) ≡ map part_entry (rows_from part_key n ps)
      → (if b then rows_from entry_key n (map part_entry ps) else part_entry p ∷ map part_entry ps) ≡ map part_entry (if b then rows_from part_key n ps else p ∷ ps)
  by true e = e
  by false e = refl

pub entries_before : (n : ℕ) (ps : List PartRow) → rows_before entry_key n (map part_entry ps) ≡ map part_entry (rows_before part_key n ps)
entries_before n [] = refl
entries_before n (p ∷ ps) = by (nat_lt (part_key p) n) (entries_before n ps) where
  by : (b : Bool) → rows_before entry_key n (map part_entry ps) ≡ map part_entry (rows_before part_key n ps)
      → (if b then part_entry p ∷ rows_before entry_key n (map part_entry ps) else []) ≡ map part_entry (if b then p ∷ rows_before part_key n ps else [])
  by true e = ap (λ (l : List PartEntry). part_entry p ∷ l) e
  by false e = refl

pub counted : (id : ℕ) (ps : List PartRow) → length (rows_between entry_key (pair_key id 0) (pair_key id 255) (map part_entry ps)) ≡ count_parts id ps
counted id ps =
    ap (λ (l : List PartEntry). length (rows_before entry_key (pair_key id 255) l)) (entries_from (pair_key id 0) ps)
    ∙ ap (λ (l : List PartEntry). length l) (entries_before (pair_key id 255) (rows_from part_key (pair_key id 0) ps))
    ∙ length-map (rows_between part_key (pair_key id 0) (pair_key id 255) ps) part_entry
