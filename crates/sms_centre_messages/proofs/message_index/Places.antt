-- One change more, with its place.
use Rattle.std.proofs.Common.{◌≡◌, ℕ, zero, suc, ◌+◌, ◌<◌, ◌≤◌, List, [], ◌∷◌, ◌++◌, length, nat_eq, cond, Option, Some, None, slice_get, eq-eqb, refl, sym, ◌∙◌, ap, subst, ⊎_elim, arith}
use Rattle.std.specs.Map.{lookup}
use Rattle.std.specs.Option.{option_and_then}
use Rattle.std.proofs.lemmas.Bool.{cases_eq, ne_eqb, cond-true, cond-false}
use Rattle.sms_rows.specs.declared.table.change.Change.{Change}
use Rattle.sms_rows.specs.table.Table.{change_key}
use Rattle.sms_rows.proofs.table.Tables.{newest_of_push, newest_of_push_other}
use Rattle.sms_centre_messages.specs.message_index.Newest.{HasPlaces}

module _ {B : Type 0} where
  pub get_last : (xs : List B) (x : B) → slice_get (xs ++ x ∷ []) (length xs) ≡ Some x
  get_last [] x = refl
  get_last (y ∷ ys) x = get_last ys x

  pub get_before : (xs : List B) (x : B) (i : ℕ) → i < length xs → slice_get (xs ++ x ∷ []) i ≡ slice_get xs i
  get_before [] x i l = absurd (omega (arith, l))
  get_before (y ∷ ys) x zero l = refl
  get_before (y ∷ ys) x (suc i) l = get_before ys x i (omega (arith, l))

  pub get_beyond : (xs : List B) (i : ℕ) → length xs ≤ i → slice_get xs i ≡ None
  get_beyond [] i l = refl
  get_beyond (x ∷ xs) zero l = absurd (omega (arith, l))
  get_beyond (x ∷ xs) (suc i) l = get_beyond xs i (omega (arith, l))

module _ {A : Type 0} (key : A → ℕ) where
  pub no_places : (places : List (ℕ × ℕ)) → places ≡ [] → HasPlaces key [] places
  no_places places none = record {
    within = λ n place e. let q : None ≡ Some place = ap (λ (l : List (ℕ × ℕ)). lookup (nat_eq n) l) (sym none) ∙ e in absurd cc;
    newest = λ n. ap (λ (l : List (ℕ × ℕ)). option_and_then (slice_get []) (lookup (nat_eq n) l)) (sym none);
  }

  length_more : (xs : List (Change A)) (c : Change A) → length (xs ++ c ∷ []) ≡ length xs + 1
  length_more [] c = omega arith
  length_more (x ∷ xs) c = let l = length_more xs c in omega (arith, l)

  same_before : (cs : List (Change A)) (c : Change A) (old : List (ℕ × ℕ)) (n : ℕ) → HasPlaces key cs old → (o : Option ℕ) → lookup (nat_eq n) old ≡ o → option_and_then (slice_get (cs ++ c ∷ [])) o ≡ option_and_then (slice_get cs) o
  same_before cs c old n has None e = refl
  same_before cs c old n has (Some place) e = get_before cs c place (has.within n place e)

  places_more : (cs : List (Change A)) (c : Change A) (old new : List (ℕ × ℕ)) → HasPlaces key cs old
      → ((n : ℕ) → change_key key c ≡ n → lookup (nat_eq n) new ≡ Some (length cs)) → ((n : ℕ) → ¬ (change_key key c ≡ n) → lookup (nat_eq n) new ≡ lookup (nat_eq n) old) → HasPlaces key (cs ++ c ∷ []) new
  places_more cs c old new has own other = record {
    within = λ n place e. ⊎_elim
        (λ (q : change_key key c ≡ n).
        let s : Some (length cs) ≡ Some place = sym (own n q) ∙ e in
        let is : length cs ≡ place = cc in
        let more = length_more cs c in
        omega (arith, is, more))
        (λ (q : change_key key c ≡ n → ⊥).
        let l = has.within n place (sym (other n q) ∙ e) in
        let more = length_more cs c in
        omega (arith, l, more))
        (cases_eq (change_key key c) n);
    newest = λ n. ⊎_elim
        (λ (q : change_key key c ≡ n).
        newest_of_push key n cs c q ∙ sym (ap (λ (o : Option ℕ). option_and_then (slice_get (cs ++ c ∷ [])) o) (own n q) ∙ get_last cs c))
        (λ (q : change_key key c ≡ n → ⊥).
        newest_of_push_other key n cs c q ∙ has.newest n
        ∙ sym (ap (λ (o : Option ℕ). option_and_then (slice_get (cs ++ c ∷ [])) o) (other n q) ∙ same_before cs c old n has (lookup (nat_eq n) old) refl))
        (cases_eq (change_key key c) n);
  }

  -- as it is written down
  pub places_pushed : (cs reserved after : List (Change A)) (c : Change A) (k place : ℕ) (old new : List (ℕ × ℕ)) → HasPlaces key cs old → reserved ≡ cs → after ≡ reserved ++ c ∷ []
      → k ≡ change_key key c → place ≡ length reserved → ((n : ℕ) → lookup (nat_eq n) new ≡ cond (nat_eq k n) (Some place) (lookup (nat_eq n) old)) → HasPlaces key after new
  places_pushed cs reserved after c k place old new has same pushed is at written =
      subst (λ (l : List (Change A)). HasPlaces key l new) (sym (pushed ∙ ap (λ (l : List (Change A)). l ++ c ∷ []) same))
      (places_more cs c old new has
      (λ n q. written n ∙ cond-true (nat_eq k n) (Some place) (lookup (nat_eq n) old) (eq-eqb k n (is ∙ q)) ∙ ap (λ (i : ℕ). Some i) (at ∙ ap (λ (l : List (Change A)). length l) same))
      (λ n q. written n ∙ cond-false (nat_eq k n) (Some place) (lookup (nat_eq n) old) (ne_eqb k n (λ (e : k ≡ n). q (sym is ∙ e)))))
