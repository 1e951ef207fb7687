-- Numbers that a group lacks.
use Rattle.std.proofs.Common.{◌≡◌, ℕ, zero, suc, ◌<◌, ◌≤◌, false, List, arith, Option, None, ap, ⊎_elim, subst, ◌+◌, Some, ◌∙◌, Bool, true, [], ◌∷◌, ◌++◌, refl, sym}
use Rattle.std.proofs.Math.Nat.{eq-or-lt_of_le}
use Rattle.std.specs.Prelude.{◌||◌, ◌==◌, if◌then◌else◌}
use Rattle.std.proofs.lemmas.Bool.{cases_Bool, cond-true, cond-false}
use Rattle.sms_concat.specs.declared.content.Part.{Part}
use Rattle.sms_handset_rows.specs.inbox.Groups.{is_among, all_numbers, parts_to, with_part, entry_part, part_with, part_number, part_numbers}
use Rattle.sms_handset_rows.specs.declared.inbox.entry.Entry.{Entry}

pub lacks_number : (total k : ℕ) (ns : List ℕ) → 0 < k → k ≤ total → is_among k ns ≡ false → all_numbers total ns ≡ false
lacks_number zero k ns p l e = absurd (omega arith)
lacks_number (suc t) k ns p l e = grind (arith, lacks_number t)

pub lacks_part : (total k : ℕ) (es : List Entry) → k ≤ total → parts_to k es ≡ None → parts_to total es ≡ None
lacks_part zero k es l e = subst (λ (n : ℕ). parts_to n es ≡ None) (let q : k ≡ zero = omega arith in q) e
lacks_part (suc t) k es l e =
    ⊎_elim (λ (q : k ≡ suc t). subst (λ (n : ℕ). parts_to n es ≡ None) q e)
    (λ (q : k < suc t). ap (λ (ps : Option (List Part)). with_part ps (entry_part (part_with (suc t) es))) (lacks_part t k es (let r : k ≤ t = omega arith in r) e))
    (eq-or-lt_of_le l)

-- reading stops at the first part that is missing
pub stops_at : (total below : ℕ) (es : List Entry) (ps : List Part) → below < total → parts_to below es ≡ Some ps → entry_part (part_with (below + 1) es) ≡ None → parts_to total es ≡ None
stops_at total below es ps l e m =
    let q : below + 1 ≡ suc below = omega arith in
    let r : suc below ≤ total = omega arith in
    lacks_part total (suc below) es r
    (ap (λ (o : Option (List Part)). with_part o (entry_part (part_with (suc below) es))) e
    ∙ ap (λ (o : Option Part). with_part (Some ps) o) (subst (λ (n : ℕ). entry_part (part_with n es) ≡ None) q m))

-- ---- one part more

pub among_more : (n : ℕ) (xs : List Entry) (e : Entry) → is_among n (part_numbers (xs ++ e ∷ [])) ≡ (is_among n (part_numbers xs) || part_number e.message == n)
among_more n [] e = or_false (part_number e.message == n)
  where
    or_false : (b : Bool) → (b || false) ≡ b
    or_false true = refl
    or_false false = refl
among_more n (x ∷ xs) e = ap (λ (b : Bool). part_number x.message == n || b) (among_more n xs e) ∙ assoc (part_number x.message == n) (is_among n (part_numbers xs)) (part_number e.message == n)
  where
    assoc : (a b c : Bool) → (a || (b || c)) ≡ ((a || b) || c)
    assoc true b c = refl
    assoc false b c = refl

pub with_there : (n : ℕ) (xs : List Entry) (e x : Entry) → part_with n xs ≡ Some x → part_with n (xs ++ e ∷ []) ≡ Some x
with_there n [] e x h = absurd cc
with_there n (y ∷ ys) e x h = ⊎_elim
    (λ (t : (part_number y.message == n) ≡ true).
    cond-true (part_number y.message == n) (Some y) (part_with n (ys ++ e ∷ [])) t ∙ sym (cond-true (part_number y.message == n) (Some y) (part_with n ys) t) ∙ h)
    (λ (t : (part_number y.message == n) ≡ false).
    cond-false (part_number y.message == n) (Some y) (part_with n (ys ++ e ∷ [])) t
    ∙ with_there n ys e x (sym (cond-false (part_number y.message == n) (Some y) (part_with n ys) t) ∙ h))
    (cases_Bool (part_number y.message == n))

pub with_last : (n : ℕ) (xs : List Entry) (e : Entry) → part_with n xs ≡ None → part_with n (xs ++ e ∷ []) ≡ (if part_number e.message == n then Some e else None)
with_last n [] e h = refl
with_last n (y ∷ ys) e h = ⊎_elim
    (λ (t : (part_number y.message == n) ≡ true).
    let bad : Some y ≡ None = sym (cond-true (part_number y.message == n) (Some y) (part_with n ys) t) ∙ h in absurd cc)
    (λ (t : (part_number y.message == n) ≡ false).
    cond-false (part_number y.message == n) (Some y) (part_with n (ys ++ e ∷ [])) t
    ∙ with_last n ys e (sym (cond-false (part_number y.message == n) (Some y) (part_with n ys) t) ∙ h))
    (cases_Bool (part_number y.message == n))
