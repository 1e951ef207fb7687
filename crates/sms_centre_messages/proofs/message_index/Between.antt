-- Rows between two keys stand from one place to another.
use Rattle.std.proofs.Common.{◌≡◌, ℕ, zero, suc, ◌+◌, ◌-◌, ◌<◌, ◌≤◌, List, [], ◌∷◌, ◌++◌, length, take, drop, slice_range, length-drop, Bool, true, false, Some, None, refl, sym, ◌∙◌, ap, arith}
use Rattle.std.specs.List.{slice_get}
use Rattle.std.specs.Prelude.{nat_lt, if◌then◌else◌}
use Rattle.std.proofs.lemmas.Bool.{cond-true, lt-ltb, ltb-false, ltb-true}
use Rattle.std.proofs.lemmas.List.{drop-drop, length-take-le}
use Rattle.sms_rows.specs.table.Table.{rows_before, rows_between, rows_from}

-- ---- rows of lower keys

abbrev pub below : {A : Type 0} → (A → ℕ) → ℕ → List A → ℕ
below key n [] = 0
below key n (x ∷ xs) = if nat_lt (key x) n then suc (below key n xs) else 0

few_below : {A : Type 0} (key : A → ℕ) (n : ℕ) (xs : List A) → below key n xs ≤ length xs
few_below key n [] = omega arith
few_below key n (x ∷ xs) = by (nat_lt (key x) n) (few_below key n xs) where
  by : (b : Bool) → below key n xs ≤ length xs → (if b then suc (below key n xs) else 0) ≤ suc (length xs)
  by true l = omega (arith, l)
  by false l = omega arith

pub drop_below : {A : Type 0} (key : A → ℕ) (n : ℕ) (xs : List A) → drop (below key n xs) xs ≡ rows_from key n xs
drop_below key n [] = refl
drop_below {A = A} key n (x ∷ xs) = by (nat_lt (key x) n) (drop_below key n xs) where
  by : (b : Bool) → drop (below key n xs) xs ≡ rows_from key n xs
      → drop (if b then suc (below key n xs) else 0) (x ∷ xs) ≡ (if b then rows_from key n xs else x ∷ xs)
  by true e = e
  by false e = refl

take_below : {A : Type 0} (key : A → ℕ) (n : ℕ) (xs : List A) → rows_before key n xs ≡ take (below key n xs) xs
take_below key n [] = refl
take_below {A = A} key n (x ∷ xs) = by (nat_lt (key x) n) (take_below key n xs) where
  by : (b : Bool) → rows_before key n xs ≡ take (below key n xs) xs
      → (if b then x ∷ rows_before key n xs else []) ≡ take (if b then suc (below key n xs) else 0) (x ∷ xs)
  by true e = ap (λ (l : List A). x ∷ l) e
  by false e = refl

-- the place from which on the rows are those from a key on
pub place_below : {A : Type 0} (key : A → ℕ) (n place : ℕ) (xs : List A) → place ≤ length xs → drop place xs ≡ rows_from key n xs → place ≡ below key n xs
place_below {A = A} key n place xs l e =
    let count : length (drop place xs) ≡ length (drop (below key n xs) xs) = ap (λ (ys : List A). length ys) (e ∙ sym (drop_below key n xs)) in
    let one = length-drop place xs in
    let other = length-drop (below key n xs) xs in
    let few = few_below key n xs in
    omega (arith, count, one, other, few, l)

-- ---- between two keys

more_below : {A : Type 0} (key : A → ℕ) (low high : ℕ) (xs : List A) → low ≤ high → below key low xs ≤ below key high xs
more_below key low high [] l = omega arith
more_below key low high (x ∷ xs) l = by (nat_lt (key x) low) refl (nat_lt (key x) high) refl (more_below key low high xs l) where
  by : (b : Bool) → nat_lt (key x) low ≡ b → (c : Bool) → nat_lt (key x) high ≡ c → below key low xs ≤ below key high xs
      → (if b then suc (below key low xs) else 0) ≤ (if c then suc (below key high xs) else 0)
  by true p true q m = omega (arith, m)
  by true p false q m =
      let lower : key x < low = ltb-true (key x) low p in
      let other : high ≤ key x = ltb-false (key x) high q in
      absurd (omega (arith, lower, other, l))
  by false p true q m = omega arith
  by false p false q m = omega arith

between_below : {A : Type 0} (key : A → ℕ) (low high : ℕ) (xs : List A) → low ≤ high → rows_between key low high xs ≡ slice_range xs (below key low xs) (below key high xs)
between_below key low high [] l = refl
between_below {A = A} key low high (x ∷ xs) l = by (nat_lt (key x) low) refl (between_below key low high xs l) where
  by : (b : Bool) → nat_lt (key x) low ≡ b → rows_between key low high xs ≡ slice_range xs (below key low xs) (below key high xs)
      → rows_before key high (if b then rows_from key low xs else x ∷ xs) ≡ slice_range (x ∷ xs) (if b then suc (below key low xs) else 0) (below key high (x ∷ xs))
  by true p e =
      let lower : key x < low = ltb-true (key x) low p in
      let up : below key high (x ∷ xs) ≡ suc (below key high xs) = cond-true (nat_lt (key x) high) (suc (below key high xs)) 0 (lt-ltb (key x) high (omega (arith, lower, l))) in
      let same : below key high xs - below key low xs ≡ below key high (x ∷ xs) - suc (below key low xs) = omega (arith, up) in
      e ∙ ap (λ (k : ℕ). take k (drop (below key low xs) xs)) same
  by false p e =
      let same : below key high (x ∷ xs) ≡ below key high (x ∷ xs) - 0 = omega arith in
      take_below key high (x ∷ xs) ∙ ap (λ (k : ℕ). take k (x ∷ xs)) same

pub places_rise : {A : Type 0} (key : A → ℕ) (low high start end : ℕ) (xs : List A) → low ≤ high → start ≤ length xs → end ≤ length xs → drop start xs ≡ rows_from key low xs → drop end xs ≡ rows_from key high xs → start ≤ end
places_rise key low high start end xs l from to a b =
    let one = place_below key low start xs from a in
    let other = place_below key high end xs to b in
    let more = more_below key low high xs l in
    omega (arith, one, other, more)

pub rows_at_places : {A : Type 0} (key : A → ℕ) (low high start end : ℕ) (xs : List A) → low ≤ high → start ≤ length xs → end ≤ length xs → drop start xs ≡ rows_from key low xs → drop end xs ≡ rows_from key high xs
    → rows_between key low high xs ≡ slice_range xs start end
rows_at_places key low high start end xs l from to a b =
    between_below key low high xs l
    ∙ ap (λ (k : ℕ). slice_range xs k (below key high xs)) (sym (place_below key low start xs from a))
    ∙ ap (λ (k : ℕ). slice_range xs start k) (sym (place_below key high end xs to b))

-- ---- from one place to another

module _ {A : Type 0} where
  pub length_range : (start end : ℕ) (xs : List A) → start ≤ end → end ≤ length xs → length (slice_range xs start end) ≡ end - start
  length_range start end xs l m =
      let rest = length-drop start xs in
      length-take-le (end - start) (drop start xs) (omega (arith, rest, l, m))

  pub range_of_none : (place : ℕ) (xs : List A) → slice_range xs place place ≡ []
  range_of_none place xs = let none : place - place ≡ 0 = omega arith in ap (λ (k : ℕ). take k (drop place xs)) none

  take_one_more : (i : ℕ) (xs : List A) → take (i + 1) xs ≡ take i xs ++ take 1 (drop i xs)
  take_one_more zero xs = refl
  take_one_more (suc i) [] = let nothing : List A = [] in
      let s : suc i + 1 ≡ suc (i + 1) = omega arith in
      ap (λ (k : ℕ). take k nothing) s
  take_one_more (suc i) (x ∷ xs) =
      let s : suc i + 1 ≡ suc (i + 1) = omega arith in
      ap (λ (k : ℕ). take k (x ∷ xs)) s ∙ ap (λ (l : List A). x ∷ l) (take_one_more i xs)

  first_of_rest : (place : ℕ) (xs : List A) → slice_range xs place (place + 1) ≡ take 1 (drop place xs)
  first_of_rest place xs = let one : place + 1 - place ≡ 1 = omega arith in ap (λ (k : ℕ). take k (drop place xs)) one

  pub range_more : (start place : ℕ) (xs : List A) → start ≤ place → slice_range xs start (place + 1) ≡ slice_range xs start place ++ slice_range xs place (place + 1)
  range_more start place xs l =
      let count : place + 1 - start ≡ place - start + 1 = omega (arith, l) in
      let whole : start + (place - start) ≡ place = omega (arith, l) in
      ap (λ (k : ℕ). take k (drop start xs)) count ∙ take_one_more (place - start) (drop start xs)
      ∙ ap (λ (l : List A). slice_range xs start place ++ take 1 l) (drop-drop (place - start) start xs ∙ ap (λ (k : ℕ). drop k xs) whole)
      ∙ ap (λ (l : List A). slice_range xs start place ++ l) (sym (first_of_rest place xs))

  one_first : (place : ℕ) (xs : List A) (x : A) → slice_get xs place ≡ Some x → take 1 (drop place xs) ≡ x ∷ []
  one_first place [] x at = absurd cc
  one_first zero (y ∷ ys) x at = let is : y ≡ x = cc in ap (λ (z : A). z ∷ []) is
  one_first (suc place) (y ∷ ys) x at = one_first place ys x at

  none_first : (place : ℕ) (xs : List A) → slice_get xs place ≡ None → take 1 (drop place xs) ≡ []
  none_first zero [] at = refl
  none_first (suc place) [] at = refl
  none_first zero (y ∷ ys) at = absurd cc
  none_first (suc place) (y ∷ ys) at = none_first place ys at

  pub range_of_one : (place : ℕ) (xs : List A) (x : A) → slice_get xs place ≡ Some x → slice_range xs place (place + 1) ≡ x ∷ []
  range_of_one place xs x at = first_of_rest place xs ∙ one_first place xs x at

  pub range_beyond : (place : ℕ) (xs : List A) → slice_get xs place ≡ None → slice_range xs place (place + 1) ≡ []
  range_beyond place xs at = first_of_rest place xs ∙ none_first place xs at

  -- a place behind another
  pub get_behind : (start place : ℕ) (xs : List A) → slice_get (drop start xs) place ≡ slice_get xs (start + place)
  get_behind zero place xs = let s : place ≡ 0 + place = omega arith in ap (λ (k : ℕ). slice_get xs k) s
  get_behind (suc start) place [] = refl
  get_behind (suc start) place (x ∷ xs) = let s : suc (start + place) ≡ suc start + place = omega arith in get_behind start place xs ∙ ap (λ (k : ℕ). slice_get (x ∷ xs) k) s
