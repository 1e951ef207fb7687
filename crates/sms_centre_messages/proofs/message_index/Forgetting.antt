-- What is asked of a message before it is forgotten is so of its row.
use Rattle.std.proofs.Common.{◌≡◌, ℕ, zero, suc, ◌+◌, ◌<◌, ◌≤◌, List, [], ◌∷◌, length, drop, Bool, true, false, Some, None, refl, sym, ◌∙◌, ap, ⊎_elim, eq-eqb, arith}
use Rattle.std.specs.List.{slice_get}
use Rattle.std.specs.Prelude.{◌==◌, ◌&&◌, ◌||◌, ◌-◌, nat_le, nat_lt, if◌then◌else◌}
use Rattle.std.proofs.lemmas.Bool.{eqb-true, le-ltb, ltb-false, ltb-true}
use Rattle.sms_rows.specs.table.Table.{rows_from}
use Rattle.sms_centre_rows.specs.declared.messages.message.MessageRow.{MessageRow}
use Rattle.sms_centre_rows.specs.declared.messages.part.PartRow.{PartRow}
use Rattle.sms_centre_rows.specs.messages.Messages.{message_key, next_id}
use Rattle.sms_centre_spec.specs.forgetting.Forgetting.{last_submitted, leaves_number}
use Rattle.sms_centre_messages.specs.declared.message_index.message_entry.MessageEntry.{MessageEntry}
use Rattle.sms_centre_messages.specs.message_index.Entries.{AreEntries, NamesOf, message_entry_key}
use Rattle.sms_centre_messages.specs.message_index.MessageIndex.{MessageIndexOf, Represents}
use Rattle.sms_centre_messages.proofs.message_index.Between.{below, drop_below, place_below}
use Rattle.sms_centre_messages.proofs.message_index.Entries.{same_key}
use Rattle.sms_centre_messages.proofs.message_index.IndexRepresents.{next_none, next_some}
use Rattle.std.proofs.lemmas.Option.{slice_get_within}

-- ---- from a number on

alike_below : (names : NamesOf) (n : ℕ) (es : List MessageEntry) (ms : List MessageRow) → AreEntries names es ms → below message_entry_key n es ≡ below message_key n ms
alike_below names n [] [] are = refl
alike_below names n [] (m ∷ ms) are = elim are [ ]
alike_below names n (e ∷ es) [] are = elim are [ ]
alike_below names n (e ∷ es) (m ∷ ms) are =
    ap (λ (k : ℕ). if nat_lt k n then suc (below message_entry_key n es) else 0) (same_key names e m are.0)
    ∙ ap (λ (k : ℕ). if nat_lt m.id n then suc k else 0) (alike_below names n es ms are.1)

pub from_alike : (names : NamesOf) (n place : ℕ) (es : List MessageEntry) (ms : List MessageRow) → AreEntries names es ms → place ≤ length es
    → drop place es ≡ rows_from message_entry_key n es → drop place ms ≡ rows_from message_key n ms
from_alike names n place es ms are l e =
    ap (λ (k : ℕ). drop k ms) (place_below message_entry_key n place es l e ∙ alike_below names n es ms are) ∙ drop_below message_key n ms

-- ---- the last message

last_moment : (names : NamesOf) (moment k : ℕ) (es : List MessageEntry) (ms : List MessageRow) (e : MessageEntry) → AreEntries names es ms → k + 1 ≡ length es → slice_get es k ≡ Some e → last_submitted moment ms ≡ e.submitted
last_moment names moment k [] ms e are l at = absurd (omega (arith, l))
last_moment names moment k (x ∷ es) [] e are l at = elim are [ ]
last_moment names moment zero (x ∷ []) (m ∷ []) e are l at =
    let is : x ≡ e = cc in
    ap (λ (y : MessageRow). y.submitted) are.0.row ∙ ap (λ (y : MessageEntry). y.submitted) is
last_moment names moment zero (x ∷ []) (m ∷ n ∷ ms) e are l at = elim are.1 [ ]
last_moment names moment zero (x ∷ y ∷ es) (m ∷ ms) e are l at = absurd (omega (arith, l))
last_moment names moment (suc k) (x ∷ es) (m ∷ ms) e are l at = last_moment names m.submitted k es ms e are.1 (omega (arith, l)) at

one_less : (a b : ℕ) → nat_lt a b ≡ nat_lt (a + 1) (b + 1)
one_less a b = by (nat_lt a b) refl (nat_lt (a + 1) (b + 1)) refl where
  by : (x : Bool) → nat_lt a b ≡ x → (y : Bool) → nat_lt (a + 1) (b + 1) ≡ y → nat_lt a b ≡ nat_lt (a + 1) (b + 1)
  by true p true q = p ∙ sym q
  by true p false q = let l : a < b = ltb-true a b p in let g : b + 1 ≤ a + 1 = ltb-false (a + 1) (b + 1) q in absurd (omega (arith, l, g))
  by false p true q = let g : b ≤ a = ltb-false a b p in let l : a + 1 < b + 1 = ltb-true (a + 1) (b + 1) q in absurd (omega (arith, l, g))
  by false p false q = p ∙ sym q

pub last_leaves : (k : MessageIndexOf) (ms : List MessageRow) (ps : List PartRow) (m : MessageRow) (e : MessageEntry) → Represents k ms ps
    → slice_get k.messages.rows (length k.messages.rows - 1) ≡ Some e → (nat_lt m.id e.id && nat_le m.submitted e.submitted) ≡ leaves_number m ms
last_leaves k ms ps m e h at =
    let l = slice_get_within k.messages.rows (length k.messages.rows - 1) e at in
    ap (λ (b : Bool). b && nat_le m.submitted e.submitted) (one_less m.id e.id ∙ ap (λ (n : ℕ). nat_lt (m.id + 1) n) (next_some k ms ps e h at))
    ∙ ap (λ (n : ℕ). nat_lt (m.id + 1) (next_id ms) && nat_le m.submitted n)
    (sym (last_moment k.names 0 (length k.messages.rows - 1) k.messages.rows ms e h.messages (omega (arith, l)) at))

pub none_leaves : (k : MessageIndexOf) (ms : List MessageRow) (ps : List PartRow) (m : MessageRow) → Represents k ms ps
    → slice_get k.messages.rows (length k.messages.rows - 1) ≡ None → false ≡ leaves_number m ms
none_leaves k ms ps m h at =
    let next : 1 ≡ next_id ms = next_none k ms ps h at in
    sym (ap (λ (b : Bool). b && nat_le m.submitted (last_submitted 0 ms)) (sym (ap (λ (n : ℕ). nat_lt (m.id + 1) n) next) ∙ le-ltb (m.id + 1) 1 (omega arith)))
