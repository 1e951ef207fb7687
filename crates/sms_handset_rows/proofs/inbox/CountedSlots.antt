-- How many slots are taken, as entries come and go.
use Rattle.std.proofs.Common.{◌≡◌, ℕ, ◌≤◌, arith, List, [], ◌∷◌, Option, ap, ⊎_elim, ◌+◌, refl, ◌∙◌, subst, ◌<◌, ◌++◌}
use Rattle.std.proofs.lemmas.Bool.{cases_eq, cases_lt}
use Rattle.sms_rows.specs.table.Table.{row_at, AllAbove, without, Rises, insert, put, all_applied}
use Rattle.sms_rows.proofs.table.Tables.{row_behind, row_here, without_behind, without_here, insert_behind, insert_here, all_applied_push, rises_all_applied}
use Rattle.sms_rows.specs.declared.table.change.Change.{Change}
use Rattle.sms_rows.specs.declared.table.change.Change.TheVariants.{Put, Remove}
use Rattle.sms_handset_rows.specs.declared.inbox.entry.Entry.{Entry}
use Rattle.sms_handset_rows.specs.inbox.Keys.{entry_key}
use Rattle.sms_handset_rows.specs.inbox.Slots.{slots_of, slots_taken}

-- an entry takes no more than all
pub no_more : (n : ℕ) (es : List Entry) → slots_of (row_at entry_key n es) ≤ slots_taken es
no_more n [] = omega arith
no_more n (x ∷ xs) = ⊎_elim
    (λ (e : x.number ≡ n). let q = ap (λ (o : Option Entry). slots_of o) (row_here entry_key n x xs e) in omega (arith, q))
    (λ (e : x.number ≡ n → ⊥). let q = ap (λ (o : Option Entry). slots_of o) (row_behind entry_key n x xs e) in omega (arith, q, no_more n xs))
    (cases_eq x.number n)

-- of entries above a number none has it
none_without : (n : ℕ) (es : List Entry) → AllAbove entry_key n es → slots_taken (without entry_key n es) ≡ slots_taken es
none_without n [] h = refl
none_without n (x ∷ xs) h =
    ap (λ (l : List Entry). slots_taken l) (without_behind entry_key n x xs (λ e. absurd (omega (arith, e, h.0)))) ∙ ap (λ (k : ℕ). x.slots + k) (none_without n xs h.1)

pub slots_without : (n : ℕ) (es : List Entry) → Rises entry_key es → slots_taken (without entry_key n es) + slots_of (row_at entry_key n es) ≡ slots_taken es
slots_without n [] h = omega arith
slots_without n (x ∷ xs) h = ⊎_elim
    (λ (e : x.number ≡ n).
    let q = ap (λ (o : Option Entry). slots_of o) (row_here entry_key n x xs e) in
    let p = ap (λ (l : List Entry). slots_taken l) (without_here entry_key n x xs e) in
    let r = none_without n xs (subst (λ (k : ℕ). AllAbove entry_key k xs) e h.0) in
    omega (arith, p, q, r))
    (λ (e : x.number ≡ n → ⊥).
    let q = ap (λ (o : Option Entry). slots_of o) (row_behind entry_key n x xs e) in
    let p = ap (λ (l : List Entry). slots_taken l) (without_behind entry_key n x xs e) in
    omega (arith, p, q, slots_without n xs h.1))
    (cases_eq x.number n)

slots_insert : (x : Entry) (es : List Entry) → slots_taken (insert entry_key x es) ≡ x.slots + slots_taken es
slots_insert x [] = refl
slots_insert x (y ∷ ys) = ⊎_elim
    (λ (l : x.number < y.number). ap (λ (z : List Entry). slots_taken z) (insert_here entry_key x y ys l))
    (λ (l : y.number ≤ x.number).
    let p = ap (λ (z : List Entry). slots_taken z) (insert_behind entry_key x y ys l) in omega (arith, p, slots_insert x ys))
    (cases_lt x.number y.number)

slots_put : (x : Entry) (es : List Entry) → Rises entry_key es → slots_taken (put entry_key x es) + slots_of (row_at entry_key x.number es) ≡ slots_taken es + x.slots
slots_put x es h = omega (arith, slots_insert x (without entry_key x.number es), slots_without x.number es h)

-- one change more

pub one_put : (x : Entry) (cs : List (Change Entry)) (es : List Entry) (taken now freed : ℕ) → Rises entry_key es → taken ≡ slots_taken (all_applied entry_key cs es)
    → freed ≡ slots_of (row_at entry_key x.number (all_applied entry_key cs es)) → now + freed ≡ taken + x.slots → now ≡ slots_taken (all_applied entry_key (cs ++ Put x ∷ []) es)
one_put x cs es taken now freed h t f n =
    let p = ap (λ (l : List Entry). slots_taken l) (all_applied_push entry_key cs (Put x) es) in
    let q = slots_put x (all_applied entry_key cs es) (rises_all_applied entry_key cs es h) in
    omega (arith, p, q, t, f, n)

pub one_removed : (k : ℕ) (cs : List (Change Entry)) (es : List Entry) (taken now freed : ℕ) → Rises entry_key es → taken ≡ slots_taken (all_applied entry_key cs es)
    → freed ≡ slots_of (row_at entry_key k (all_applied entry_key cs es)) → now + freed ≡ taken + 0 → now ≡ slots_taken (all_applied entry_key (cs ++ Remove k ∷ []) es)
one_removed k cs es taken now freed h t f n =
    let p = ap (λ (l : List Entry). slots_taken l) (all_applied_push entry_key cs (Remove k) es) in
    let q = slots_without k (all_applied entry_key cs es) (rises_all_applied entry_key cs es h) in
    omega (arith, p, q, t, f, n)
