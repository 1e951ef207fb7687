-- Rows that are removed in one pass.
use Rattle.std.proofs.Common.{◌≡◌, ◌⊎◌, ℕ, zero, suc, ◌+◌, ◌<◌, ◌≤◌, arith, List, [], ◌∷◌, map, length, drop, get_or, Bool, true, false, refl, sym, ◌∙◌, ap, subst, inl, inr, ⊎_elim, Option, Some, None}
use Rattle.std.specs.Prelude.{◌==◌, ◌||◌, is_some, nat_lt, not, if◌then◌else◌}
use Rattle.std.specs.List.{filter}
use Rattle.std.proofs.lemmas.Bool.{false≢true, cases_Bool, cases_eq, cond-true, cond-false, lt-ltb, ltb-true, or_left, or_right}
use Rattle.sms_rows.specs.table.Table.{AreRemovals, Rises, all_applied, applied, change_key, is_there, row_at, without, without_all}
use Rattle.sms_rows.specs.declared.table.change.Change.{Change}
use Rattle.sms_rows.specs.declared.table.change.Change.TheVariants.{Put, Remove}
use Rattle.sms_rows.proofs.table.Tables.{row_behind, row_here, rises_without, without_behind, without_here}

module _ {A : Type 0} (key : A → ℕ) where
  -- as changes they are the same
  pub applied_removals : (changes : List (Change A)) (rows : List A) → AreRemovals changes → all_applied key changes rows ≡ without_all key (map (λ (c : Change A). change_key key c) changes) rows
  applied_removals [] rows h = refl
  applied_removals (Put x ∷ changes) rows h = absurd (false≢true h)
  applied_removals (Remove n ∷ changes) rows h = applied_removals changes (without key n rows) h

  pub rises_without_all : (ns : List ℕ) (rows : List A) → Rises key rows → Rises key (without_all key ns rows)
  rises_without_all [] rows h = h
  rises_without_all (n ∷ ns) rows h = rises_without_all ns (without key n rows) (rises_without key n rows h)

module _ {A C : Type 0} (key : A → ℕ) (other : C → ℕ) where
  abbrev stays : List C → A → Bool
  stays others x = not (is_there other (key x) others)

  stays_out : (o : C) (os : List C) (x : A) → key x ≡ other o → stays (o ∷ os) x ≡ false
  stays_out o os x e = ap (λ (r : Option C). not (is_some r)) (row_here other (key x) o os (sym e))

  stays_on : (o : C) (os : List C) (x : A) → ¬ (key x ≡ other o) → stays (o ∷ os) x ≡ stays os x
  stays_on o os x ne = ap (λ (r : Option C). not (is_some r)) (row_behind other (key x) o os (λ e. ne (sym e)))

  one_out : (o : C) (os : List C) (rows : List A) → filter (stays (o ∷ os)) rows ≡ filter (stays os) (without key (other o) rows)
  one_out o os [] = refl
  one_out o os (x ∷ xs) = ⊎_elim
      (λ (e : key x ≡ other o).
      cond-false (stays (o ∷ os) x) (x ∷ filter (stays (o ∷ os)) xs) (filter (stays (o ∷ os)) xs) (stays_out o os x e)
      ∙ one_out o os xs
      ∙ sym (ap (λ (l : List A). filter (stays os) l) (without_here key (other o) x xs e)))
      (λ (e : key x ≡ other o → ⊥).
      ap (λ (b : Bool). if b then x ∷ filter (stays (o ∷ os)) xs else filter (stays (o ∷ os)) xs) (stays_on o os x e)
      ∙ ap (λ (l : List A). if stays os x then x ∷ l else l) (one_out o os xs)
      ∙ sym (ap (λ (l : List A). filter (stays os) l) (without_behind key (other o) x xs e)))
      (cases_eq (key x) (other o))

  all_stay : (rows : List A) → filter (stays []) rows ≡ rows
  all_stay [] = refl
  all_stay (x ∷ xs) = ap (λ (l : List A). x ∷ l) (all_stay xs)

  -- one pass keeps what has none of the keys
  pub passed : (others : List C) (rows : List A) → filter (λ (x : A). not (is_there other (key x) others)) rows ≡ without_all key (map other others) rows
  passed [] rows = all_stay rows
  passed (o ∷ os) rows = one_out o os rows ∙ passed os (without key (other o) rows)

-- ---- a search row by row

module _ {A : Type 0} (key : A → ℕ) where
  pub passed_by : (n i : ℕ) (xs : List A) (x : A) → i < length xs → x ≡ get_or xs i x → ¬ (key x ≡ n) → row_at key n (drop i xs) ≡ row_at key n (drop (suc i) xs)
  passed_by n i [] x l at ne = absurd (omega (arith, l))
  passed_by n zero (y ∷ ys) x l at ne = row_behind key n y ys (λ e. ne (ap key at ∙ e))
  passed_by n (suc i) (y ∷ ys) x l at ne = passed_by n i ys x (omega (arith, l)) at ne

  pub found_by : (n i : ℕ) (xs : List A) (x : A) → i < length xs → x ≡ get_or xs i x → key x ≡ n → is_some (row_at key n (drop i xs)) ≡ true
  found_by n i [] x l at e = absurd (omega (arith, l))
  found_by n zero (y ∷ ys) x l at e = ap (λ (o : Option A). is_some o) (row_here key n y ys (sym (ap key at) ∙ e))
  found_by n (suc i) (y ∷ ys) x l at e = found_by n i ys x (omega (arith, l)) at e

  pub none_left : (n i : ℕ) (xs : List A) → length xs ≤ i → is_some (row_at key n (drop i xs)) ≡ false
  none_left n zero [] l = refl
  none_left n (suc i) [] l = refl
  none_left n zero (x ∷ xs) l = absurd (omega (arith, l))
  none_left n (suc i) (x ∷ xs) l = none_left n i xs (omega (arith, l))

  -- what is outside of a range was outside of a smaller one, and is not the key that made it larger
  outside : (n low high k less more : ℕ) → less ≤ low → less ≤ k → high ≤ more → k ≤ more → (nat_lt n less || nat_lt more n) ≡ true
      → ((nat_lt n low || nat_lt high n) ≡ true) × (k ≡ n → ⊥)
  outside n low high k less more a b c d e = ⊎_elim
      (λ (t : nat_lt n less ≡ true).
      let l : n < less = ltb-true n less t in
      let is : ((nat_lt n low || nat_lt high n) ≡ true) × (k ≡ n → ⊥) = (or_left (nat_lt n low) (nat_lt high n) (lt-ltb n low (omega (arith, l, a))), λ q. absurd (omega (arith, l, b, q))) in is)
      (λ (f : nat_lt n less ≡ false).
      let m : more < n = ltb-true more n (sym (ap (λ (x : Bool). x || nat_lt more n) f) ∙ e) in
      let is : ((nat_lt n low || nat_lt high n) ≡ true) × (k ≡ n → ⊥) = (or_right (nat_lt n low) (nat_lt high n) (lt-ltb high n (omega (arith, m, c))), λ q. absurd (omega (arith, m, d, q))) in is)
      (cases_Bool (nat_lt n less))

  pub range_on : (n i low high less more : ℕ) (xs : List A) (x : A) → i < length xs → x ≡ get_or xs i x → less ≤ low → less ≤ key x → high ≤ more → key x ≤ more
      → ((nat_lt n low || nat_lt high n) ≡ true → is_some (row_at key n (drop i xs)) ≡ false → is_some (row_at key n xs) ≡ false)
      → (nat_lt n less || nat_lt more n) ≡ true → is_some (row_at key n (drop (suc i) xs)) ≡ false → is_some (row_at key n xs) ≡ false
  range_on n i low high less more xs x l at a b c d before out none =
      let o = outside n low high (key x) less more a b c d out in
      before o.0 (ap (λ (r : Option A). is_some r) (passed_by n i xs x l at o.1) ∙ none)
