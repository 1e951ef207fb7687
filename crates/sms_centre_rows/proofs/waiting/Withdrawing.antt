-- The parts of a message that wait no more: the others stay in order, and are found as before.
use Rattle.std.proofs.Common.{◌≡◌, ◌⊎◌, ℕ, ◌<◌, List, [], ◌∷◌, None, Bool, true, false, refl, sym, ◌∙◌, ap, subst, inl, inr, ⊎_elim, eq-eqb, eqb-true, arith}
use Rattle.std.specs.Prelude.{◌==◌, not}
use Rattle.std.proofs.lemmas.Bool.{cases_Bool, cases_eq, cond-true, cond-false, ne_eqb, and_parts, and_from}
use Rattle.sms_base.specs.Among.{Among}
use Rattle.sms_rows.specs.table.Keys.{pair_key}
use Rattle.sms_rows.specs.table.Table.{AllAbove, Rises, row_at}
use Rattle.sms_rows.proofs.table.Tables.{row_behind, row_here}
use Rattle.sms_centre_rows.specs.declared.waiting.queued_part.QueuedPart.{QueuedPart}
use Rattle.sms_centre_rows.specs.waiting.Keys.{queued_key}
use Rattle.sms_centre_rows.specs.waiting.Waiting.{is_part_of, withdrawn}

withdrawn_first : (id : ℕ) (l : QueuedPart) (ls : List QueuedPart) → is_part_of id l ≡ true → withdrawn id (l ∷ ls) ≡ withdrawn id ls
withdrawn_first id l ls t = cond-true (is_part_of id l) (withdrawn id ls) (l ∷ withdrawn id ls) t

withdrawn_rest : (id : ℕ) (l : QueuedPart) (ls : List QueuedPart) → is_part_of id l ≡ false → withdrawn id (l ∷ ls) ≡ l ∷ withdrawn id ls
withdrawn_rest id l ls t = cond-false (is_part_of id l) (withdrawn id ls) (l ∷ withdrawn id ls) t

above_withdrawn : (id n : ℕ) (ls : List QueuedPart) → AllAbove queued_key n ls → AllAbove queued_key n (withdrawn id ls)
above_withdrawn id n [] a = tt
above_withdrawn id n (l ∷ ls) a = ⊎_elim
    (λ (t : is_part_of id l ≡ true). subst (λ (r : List QueuedPart). AllAbove queued_key n r) (sym (withdrawn_first id l ls t)) (above_withdrawn id n ls a.1))
    (λ (t : is_part_of id l ≡ false). subst (λ (r : List QueuedPart). AllAbove queued_key n r) (sym (withdrawn_rest id l ls t)) (a.0, above_withdrawn id n ls a.1))
    (cases_Bool (is_part_of id l))

pub rises_withdrawn : (id : ℕ) (ls : List QueuedPart) → Rises queued_key ls → Rises queued_key (withdrawn id ls)
rises_withdrawn id [] r = tt
rises_withdrawn id (l ∷ ls) r = ⊎_elim
    (λ (t : is_part_of id l ≡ true). subst (λ (x : List QueuedPart). Rises queued_key x) (sym (withdrawn_first id l ls t)) (rises_withdrawn id ls r.1))
    (λ (t : is_part_of id l ≡ false). subst (λ (x : List QueuedPart). Rises queued_key x) (sym (withdrawn_rest id l ls t)) (above_withdrawn id (queued_key l) ls r.0, rises_withdrawn id ls r.1))
    (cases_Bool (is_part_of id l))

-- each number is below 256
abbrev pub AreFew : List QueuedPart → Type 0
AreFew ls = (l : QueuedPart) → Among l ls → l.number < 256

pub withdrawn_part : (id n : ℕ) (ls : List QueuedPart) → AreFew ls → 0 < n → n < 256 → row_at queued_key (pair_key id n) (withdrawn id ls) ≡ None
withdrawn_part id n [] few some small = refl
withdrawn_part id n (l ∷ ls) few some small =
    let rest = withdrawn_part id n ls (λ x m. few x (inr m)) some small in
    ⊎_elim
    (λ (t : is_part_of id l ≡ true). ap (λ (r : List QueuedPart). row_at queued_key (pair_key id n) r) (withdrawn_first id l ls t) ∙ rest)
    (λ (t : is_part_of id l ≡ false).
    let low = few l (inl refl) in
    let ne : ¬ (queued_key l ≡ pair_key id n) = λ e.
    let same : l.id ≡ id = omega (arith, e, low, small) in
    let number : l.number ≡ n = omega (arith, e, low, small) in
    let nonzero : ¬ (l.number ≡ 0) = λ z. absurd (omega (arith, z, number, some)) in
    let yes : is_part_of id l ≡ true = and_from (l.id == id) (not (l.number == 0)) (eq-eqb l.id id same) (ap (λ (b : Bool). not b) (ne_eqb l.number 0 nonzero)) in
    absurd cc in
    ap (λ (r : List QueuedPart). row_at queued_key (pair_key id n) r) (withdrawn_rest id l ls t) ∙ row_behind queued_key (pair_key id n) l (withdrawn id ls) ne ∙ rest)
    (cases_Bool (is_part_of id l))

-- a key of another message, or of a status report
pub withdrawn_other : (id i n : ℕ) (ls : List QueuedPart) → AreFew ls → n < 256 → (¬ (i ≡ id)) ⊎ (n ≡ 0) → row_at queued_key (pair_key i n) (withdrawn id ls) ≡ row_at queued_key (pair_key i n) ls
withdrawn_other id i n [] few small other = refl
withdrawn_other id i n (l ∷ ls) few small other =
    let rest = withdrawn_other id i n ls (λ x m. few x (inr m)) small other in
    let low = few l (inl refl) in
    ⊎_elim
    (λ (t : is_part_of id l ≡ true).
    let parts = and_parts (l.id == id) (not (l.number == 0)) t in
    let at : l.id ≡ id = eqb-true l.id id parts.0 in
    let nonzero : ¬ (l.number ≡ 0) = λ z. let y : (l.number == 0) ≡ true = eq-eqb l.number 0 z in let p = parts.1 in absurd cc in
    let ne : ¬ (queued_key l ≡ pair_key i n) = λ e. ⊎_elim
    (λ (d : ¬ (i ≡ id)). d (omega (arith, e, at, low, small)))
    (λ (z : n ≡ 0). nonzero (omega (arith, e, z, low)))
    other in
    ap (λ (r : List QueuedPart). row_at queued_key (pair_key i n) r) (withdrawn_first id l ls t) ∙ rest ∙ sym (row_behind queued_key (pair_key i n) l ls ne))
    (λ (t : is_part_of id l ≡ false).
    ap (λ (r : List QueuedPart). row_at queued_key (pair_key i n) r) (withdrawn_rest id l ls t) ∙ ⊎_elim
    (λ (e : queued_key l ≡ pair_key i n). row_here queued_key (pair_key i n) l (withdrawn id ls) e ∙ sym (row_here queued_key (pair_key i n) l ls e))
    (λ (e : queued_key l ≡ pair_key i n → ⊥). row_behind queued_key (pair_key i n) l (withdrawn id ls) e ∙ rest ∙ sym (row_behind queued_key (pair_key i n) l ls e))
    (cases_eq (queued_key l) (pair_key i n)))
    (cases_Bool (is_part_of id l))
