-- The parts of a message that are done, number by number.
use Rattle.std.proofs.Common.{◌≡◌, ℕ, zero, suc, ◌+◌, ◌<◌, List, Bool, true, false, refl, sym, ◌∙◌, ap, ⊎_elim, arith}
use Rattle.std.specs.Prelude.{◌&&◌}
use Rattle.std.proofs.lemmas.Bool.{cases_eq}
use Rattle.sms_rows.specs.table.Keys.{pair_key}
use Rattle.sms_rows.specs.table.Table.{row_at}
use Rattle.sms_centre_rows.specs.declared.messages.parts.PartEntry.{PartEntry}
use Rattle.sms_centre_rows.specs.messages.PartEntries.{done_to, entry_key, is_done_entry}

-- one more is done
pub done_more : (id n : ℕ) (es : List PartEntry) → done_to id n es ≡ true → is_done_entry (row_at entry_key (pair_key id (n + 1)) es) ≡ true → done_to id (n + 1) es ≡ true
unfolding done_to
done_more id n es before e =
    let next : n + 1 ≡ suc n = omega arith in
    let this : is_done_entry (row_at entry_key (pair_key id (suc n)) es) ≡ true = ap (λ (k : ℕ). is_done_entry (row_at entry_key (pair_key id k) es)) (sym next) ∙ e in
    ap (λ (k : ℕ). done_to id k es) next
    ∙ ap (λ (b : Bool). b && done_to id n es) this ∙ before

-- one that isn't
pub not_done : (id n k : ℕ) (es : List PartEntry) → k < n → is_done_entry (row_at entry_key (pair_key id (k + 1)) es) ≡ false → done_to id n es ≡ false
unfolding done_to
not_done id zero k es l e = absurd (omega arith)
not_done id (suc n) k es l e = ⊎_elim
    (λ (q : k ≡ n).
    let next : suc n ≡ k + 1 = omega (arith, q) in
    ap (λ (b : Bool). b && done_to id n es) (ap (λ (i : ℕ). is_done_entry (row_at entry_key (pair_key id i) es)) next ∙ e))
    (λ (q : k ≡ n → ⊥).
    let less : k < n = omega (arith, q) in
    ap (λ (b : Bool). is_done_entry (row_at entry_key (pair_key id (suc n)) es) && b) (not_done id n k es less e)
    ∙ and_false (is_done_entry (row_at entry_key (pair_key id (suc n)) es)))
    (cases_eq k n)
  where
    and_false : (b : Bool) → (b && false) ≡ false
    and_false true = refl
    and_false false = refl

pub none_done : (id : ℕ) (es : List PartEntry) → done_to id 0 es ≡ true
unfolding done_to
none_done id es = refl
