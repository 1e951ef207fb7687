-- A number that came stands under its place, and the others stay.
use Rattle.std.proofs.Common.{◌≡◌, ◌≢◌, ◌<◌, inl, inr, arith, ℕ, zero, suc, List, [], ◌∷◌, ◌++◌, length, map, Bool, true, false, Option, Some, true≢false, append-nil, append_assoc, refl, sym, ◌∙◌, ap, subst, ⊎_elim}
use Rattle.std.specs.List.{AllByRecursion, IsDistinct, find, list_any, slice_get}
use Rattle.std.specs.Prelude.{◌||◌}
use Rattle.std.specs.Option.{option_map}
use Rattle.std.specs.Str.{bytes_eq}
use Rattle.std.proofs.lemmas.Bool.{cases_Bool, cond-true, cond-false, or_parts}
use Rattle.std.proofs.lemmas.Option.{slice_get-map}
use Rattle.std.proofs.lemmas.Slice.Eq.{bytes_eq-Decides}
use Rattle.indexmap.specs.IndexSet.{insert_all, insert_key}
use Rattle.sms_rows.specs.declared.interning.number.Number.{Number}
use Rattle.sms_rows.specs.interning.Interning.{IsAt, IsKnownOrLast, IsNowhere, Keeps}
use Rattle.sms_rows.specs.interning.Numbers.{digits_in}

abbrev is_same : Number → Number → Bool
is_same a b = bytes_eq a.digits b.digits

same_digits : (a b : Number) → is_same a b ≡ true → a.digits ≡ b.digits
same_digits a b e = (bytes_eq-Decides a.digits b.digits).0 e

at_append : (xs ys : List (List ℕ)) (v : List ℕ) (i : ℕ) → IsAt v i xs → IsAt v i (xs ++ ys)
at_append [] ys v i e = absurd cc
at_append (x ∷ xs) ys v zero e = e
at_append (x ∷ xs) ys v (suc i) e = at_append xs ys v i e

map_append : (xs ys : List Number) → map digits_in (xs ++ ys) ≡ map digits_in xs ++ map digits_in ys
map_append [] ys = refl
map_append (x ∷ xs) ys = ap (λ (l : List (List ℕ)). x.digits ∷ l) (map_append xs ys)

pub keeps_inserted : (k : Number) (ks : List Number) → Keeps (map digits_in ks) (map digits_in (insert_key is_same ks k))
keeps_inserted k ks v i e = ⊎_elim
    (λ (t : list_any (is_same k) ks ≡ true). subst (λ (l : List Number). IsAt v i (map digits_in l)) (sym (cond-true (list_any (is_same k) ks) ks (ks ++ k ∷ []) t)) e)
    (λ (t : list_any (is_same k) ks ≡ false).
    subst (λ (l : List Number). IsAt v i (map digits_in l)) (sym (cond-false (list_any (is_same k) ks) ks (ks ++ k ∷ []) t))
    (subst (λ (l : List (List ℕ)). IsAt v i l) (sym (map_append ks (k ∷ []))) (at_append (map digits_in ks) (k.digits ∷ []) v i e)))
    (cases_Bool (list_any (is_same k) ks))

pub own_place : (v : Number) (ns : List Number) (i : ℕ) (k : Number) → slice_get ns i ≡ Some k → is_same v k ≡ true → IsAt v.digits i (map digits_in ns)
own_place v ns i k at same =
    slice_get-map digits_in ns i ∙ ap (λ (o : Option Number). option_map digits_in o) at
    ∙ ap (λ (d : List ℕ). Some d) (sym (same_digits v k same))

-- ---- looked up

pub found_place : (v : Number) (ks : List Number) (i : ℕ) (k : Number) → slice_get ks i ≡ Some k → find (is_same v) ks ≡ Some k → IsAt v.digits i (map digits_in ks)
found_place v ks i k at found = own_place v ks i k at (passes ks found) where
  passes : (xs : List Number) → find (is_same v) xs ≡ Some k → is_same v k ≡ true
  passes [] e = absurd cc
  passes (x ∷ xs) e = ⊎_elim
      (λ (t : is_same v x ≡ true).
      let q : Some x ≡ Some k = sym (cond-true (is_same v x) (Some x) (find (is_same v) xs) t) ∙ e in
      let is : x ≡ k = cc in ap (λ (y : Number). is_same v y) (sym is) ∙ t)
      (λ (t : is_same v x ≡ false). passes xs (sym (cond-false (is_same v x) (Some x) (find (is_same v) xs) t) ∙ e))
      (cases_Bool (is_same v x))

pub no_place : (v : Number) (ks : List Number) → list_any (is_same v) ks ≡ false → (i : ℕ) → ¬ IsAt v.digits i (map digits_in ks)
no_place v [] none i at = absurd cc
no_place v (k ∷ ks) none zero at =
    let d : v.digits ≡ k.digits = sym cc in
    absurd (true≢false (sym ((bytes_eq-Decides v.digits k.digits).1 d) ∙ (or_parts (is_same v k) (list_any (is_same v) ks) none).0))
no_place v (k ∷ ks) none (suc i) at = no_place v ks (or_parts (is_same v k) (list_any (is_same v) ks) none).1 i at

-- ---- moved into another memory, one after the other

other_way : (a b : Number) → is_same a b ≡ false → is_same b a ≡ false
other_way a b e = ⊎_elim
    (λ (t : is_same b a ≡ true). absurd (true≢false (sym ((bytes_eq-Decides a.digits b.digits).1 (sym (same_digits b a t))) ∙ e)))
    (λ (t : is_same b a ≡ false). t)
    (cases_Bool (is_same b a))

any_append : (t : Number → Bool) (xs : List Number) (y : Number) → list_any t xs ≡ false → t y ≡ false → list_any t (xs ++ y ∷ []) ≡ false
any_append t [] y e f = ap (λ (b : Bool). b || false) f
any_append t (x ∷ xs) y e f =
    let n = or_parts (t x) (list_any t xs) e in
    ap (λ (b : Bool). b || list_any t (xs ++ y ∷ [])) n.0 ∙ any_append t xs y n.1 f

insert_each : (done xs : List Number) → AllByRecursion (λ (x : Number). list_any (is_same x) done ≡ false) xs → IsDistinct is_same xs → insert_all is_same done xs ≡ done ++ xs
unfolding IsDistinct
insert_each done [] absent apart = sym (append-nil done)
insert_each done (x ∷ xs) absent apart =
    ap (λ (l : List Number). insert_all is_same l xs) (cond-false (list_any (is_same x) done) done (done ++ x ∷ []) absent.0)
    ∙ insert_each (done ++ x ∷ []) xs (more xs absent.1 apart.0) apart.1
    ∙ append_assoc done (x ∷ []) xs
  where
    more : (ys : List Number) → AllByRecursion (λ (y : Number). list_any (is_same y) done ≡ false) ys → AllByRecursion (λ (y : Number). is_same x y ≡ false) ys → AllByRecursion (λ (y : Number). list_any (is_same y) (done ++ x ∷ []) ≡ false) ys
    more [] a b = tt
    more (y ∷ ys) a b = (any_append (is_same y) done x a.0 (other_way x y b.0), more ys a.1 b.1)

none_yet : (xs : List Number) → AllByRecursion (λ (x : Number). list_any (is_same x) [] ≡ false) xs
none_yet [] = tt
none_yet (x ∷ xs) = (refl, none_yet xs)

pub keeps_moved : (own old new : List Number) → own ≡ [] → IsDistinct is_same old → new ≡ insert_all is_same own old → Keeps (map digits_in old) (map digits_in new)
keeps_moved own old new none apart e v i at =
    subst (λ (l : List Number). IsAt v i (map digits_in l))
    (sym (e ∙ ap (λ (l : List Number). insert_all is_same l old) none ∙ insert_each [] old (none_yet old) apart)) at

pub same_moved : (own old new : List Number) → own ≡ [] → IsDistinct is_same old → new ≡ insert_all is_same own old → map digits_in new ≡ map digits_in old
same_moved own old new none apart e =
    ap (map digits_in) (e ∙ ap (λ (l : List Number). insert_all is_same l old) none ∙ insert_each [] old (none_yet old) apart)

-- ---- added

pub added_once : (k : Number) (ks : List Number) → IsKnownOrLast (map digits_in ks) k.digits (map digits_in (insert_key is_same ks k))
added_once k ks = ⊎_elim
    (λ (t : list_any (is_same k) ks ≡ true). inl (ap (map digits_in) (cond-true (list_any (is_same k) ks) ks (ks ++ k ∷ []) t)))
    (λ (t : list_any (is_same k) ks ≡ false). inr (no_place k ks t, ap (map digits_in) (cond-false (list_any (is_same k) ks) ks (ks ++ k ∷ []) t) ∙ map_append ks (k ∷ [])))
    (cases_Bool (list_any (is_same k) ks))

-- ---- a walk

pub nowhere : (name : List ℕ) (names : List (List ℕ)) → ((place : ℕ) → place < length names → slice_get names place ≢ Some name) → IsNowhere name names
nowhere name [] f place at = absurd cc
nowhere name (x ∷ xs) f zero at = f 0 (omega arith) at
nowhere name (x ∷ xs) f (suc place) at = nowhere name xs (λ p l e. f (suc p) (omega (arith, l)) e) place at
