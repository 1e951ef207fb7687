-- What is noted change by change is what the definition tells of all changes.
use Rattle.std.proofs.Common.{◌≡◌, ℕ, zero, suc, ◌+◌, ◌<◌, List, [], ◌∷◌, ◌++◌, Bool, true, false, length, get_or, sym, ◌∙◌, ap, append_assoc, refl, arith}
use Rattle.std.specs.Prelude.{if◌then◌else◌, is_some, not, take, drop}
use Rattle.sms_rows.specs.declared.table.change.Change.{Change}
use Rattle.sms_rows.specs.declared.table.change.Change.TheVariants.{Put, Remove}
use Rattle.sms_rows.specs.table.Table.{all_applied, applied, row_at}
use Rattle.sms_handset_rows.specs.declared.inbox.entry.Entry.{Entry}
use Rattle.sms_handset_rows.specs.declared.inbox.last_accepted.LastAccepted.{LastAccepted}
use Rattle.sms_handset_rows.specs.declared.outbox.out_entry.OutEntry.{OutEntry}
use Rattle.sms_handset_rows.specs.outbox.Keys.{out_key}
use Rattle.sms_script.specs.declared.report.rows.AcceptedRow.{AcceptedRow}
use Rattle.sms_script.specs.declared.report.rows.GivenRow.{GivenRow}
use Rattle.sms_script.specs.declared.report.rows.JoinedRow.{JoinedRow}
use Rattle.sms_play.specs.HandsetSide.{accepted_in, entries_given, entry_given, joined_as, joined_in}
use Rattle.sms_player_handset.specs.Noting.{accepted_of, each, entry_of, joined_of}

pub accepted_each : (handset : List ℕ) (changes : List (Change LastAccepted)) → each (accepted_of handset) changes ≡ accepted_in handset changes
accepted_each handset [] = refl
accepted_each handset (Put l ∷ changes) = ap (λ (rows : List AcceptedRow). record { handset = handset; reference = l.reference; tpdu = l.tpdu } ∷ rows) (accepted_each handset changes)
accepted_each handset (Remove key ∷ changes) = accepted_each handset changes

pub joined_each : (handset : List ℕ) (changes : List (Change Entry)) → each (joined_of handset) changes ≡ joined_in handset changes
joined_each handset [] = refl
joined_each handset (Put e ∷ changes) = ap (λ (rows : List JoinedRow). joined_as handset e.message ++ rows) (joined_each handset changes)
joined_each handset (Remove key ∷ changes) = joined_each handset changes

either_way : (b : Bool) (rows : List GivenRow) → (if not b then rows else []) ≡ (if b then [] else rows)
either_way true rows = refl
either_way false rows = refl

-- the first change, and then those that are left, on the outbox after it
pub entries_next : (handset : List ℕ) (moment : ℕ) (outbox : List OutEntry) (change : Change OutEntry) (changes : List (Change OutEntry))
    → entries_given handset moment outbox (change ∷ changes) ≡ entry_of handset moment outbox change ++ entries_given handset moment (applied out_key change outbox) changes
entries_next handset moment outbox (Put o) changes =
    ap (λ (rows : List GivenRow). rows ++ entries_given handset moment (applied out_key (Put o) outbox) changes)
    (sym (either_way (is_some (row_at out_key o.number outbox)) (entry_given handset moment o)))
entries_next handset moment outbox (Remove key) changes = refl

-- The change at a place, and then those behind it, on the outbox after those before it.
entries_at : (handset : List ℕ) (moment : ℕ) (outbox : List OutEntry) (changes : List (Change OutEntry)) (k : ℕ) (change : Change OutEntry) → k < length changes → change ≡ get_or changes k change
    → entries_given handset moment (all_applied out_key (take k changes) outbox) (drop k changes)
    ≡ entry_of handset moment (all_applied out_key (take k changes) outbox) change ++ entries_given handset moment (all_applied out_key (take (suc k) changes) outbox) (drop (suc k) changes)
entries_at handset moment outbox [] k change within is = absurd (omega (arith, within))
entries_at handset moment outbox (x ∷ changes) zero change within is =
    entries_next handset moment outbox x changes
    ∙ ap (λ (y : Change OutEntry). entry_of handset moment outbox y ++ entries_given handset moment (applied out_key x outbox) changes) (sym is)
entries_at handset moment outbox (x ∷ changes) (suc k) change within is =
    entries_at handset moment (applied out_key x outbox) changes k change (omega (arith, within)) is

-- so what was noted before a change is what was noted behind it
pub entries_step : (handset : List ℕ) (moment : ℕ) (outbox : List OutEntry) (changes : List (Change OutEntry)) (k : ℕ) (change : Change OutEntry) → k < length changes → change ≡ get_or changes k change
    → (given next all : List GivenRow) → next ≡ given ++ entry_of handset moment (all_applied out_key (take k changes) outbox) change
    → given ++ entries_given handset moment (all_applied out_key (take k changes) outbox) (drop k changes) ≡ all
    → next ++ entries_given handset moment (all_applied out_key (take (k + 1) changes) outbox) (drop (k + 1) changes) ≡ all
entries_step handset moment outbox changes k change within is given next all noted before =
    let q : k + 1 ≡ suc k = omega arith in
    let one : List GivenRow = entry_of handset moment (all_applied out_key (take k changes) outbox) change in
    let rest : List GivenRow = entries_given handset moment (all_applied out_key (take (suc k) changes) outbox) (drop (suc k) changes) in
    ap (λ (n : ℕ). next ++ entries_given handset moment (all_applied out_key (take n changes) outbox) (drop n changes)) q
    ∙ ap (λ (rows : List GivenRow). rows ++ rest) noted
    ∙ append_assoc given one rest
    ∙ ap (λ (rows : List GivenRow). given ++ rows) (sym (entries_at handset moment outbox changes k change within is))
    ∙ before
