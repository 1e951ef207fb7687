-- Places in a table: what an edit at a place does, and what a search by halves finds.
use Rattle.std.proofs.Common.{◌≡◌, ℕ, zero, suc, ◌+◌, ◌-◌, ◌<◌, ◌≤◌, arith, List, [], ◌∷◌, true, false, refl, sym, ◌∙◌, ap, subst, length, take, drop, get_or, Some, None}
use Rattle.std.proofs.Math.ListN.{set}
use Rattle.std.specs.List.{AllWithin, AllAdjacentBelow}
use Rattle.std.specs.List.Sorted.{IsNonDecreasingBy, IsPartitionPoint}
use Rattle.std.specs.List as holes
use Rattle.std.specs.Prelude.{nat_lt}
use Rattle.std.proofs.lemmas.Bool.{ltb-true, ltb-false, lt-ltb, le-ltb, cond-true, cond-false}
use Rattle.sms_rows.specs.table.Table.{row_at, rows_before, rows_from, without, insert, put, AllAbove, Rises, IsAt, IsGap}
use Rattle.sms_rows.proofs.table.Tables.{row_here, row_behind, without_here, without_behind, insert_here, insert_behind, above_lower}

module _ {A : Type 0} (key : A → ℕ) where
  pub at_inside : (n place : ℕ) (xs : List A) → IsAt key n place xs → place < length xs
  at_inside n place [] h = absurd h
  at_inside n zero (x ∷ xs) h = omega arith
  at_inside n (suc place) (x ∷ xs) h = omega (arith, at_inside n place xs h.1)

  pub gap_inside : (n place : ℕ) (xs : List A) → IsGap key n place xs → place ≤ length xs
  gap_inside n zero xs h = omega arith
  gap_inside n (suc place) [] h = absurd h
  gap_inside n (suc place) (x ∷ xs) h = omega (arith, gap_inside n place xs h.1)

  -- ---- look-ups

  pub found_at : (n place : ℕ) (xs : List A) (d : A) → IsAt key n place xs → row_at key n xs ≡ Some (get_or xs place d)
  found_at n place [] d h = absurd h
  found_at n zero (x ∷ xs) d h = row_here key n x xs h
  found_at n (suc place) (x ∷ xs) d h = row_behind key n x xs (λ e. absurd (omega (arith, h.0))) ∙ found_at n place xs d h.1

  pub above_none : (n : ℕ) (xs : List A) → AllAbove key n xs → row_at key n xs ≡ None
  above_none n [] h = refl
  above_none n (x ∷ xs) h = row_behind key n x xs (λ e. absurd (omega (arith, h.0))) ∙ above_none n xs h.1

  pub none_at : (n place : ℕ) (xs : List A) → IsGap key n place xs → row_at key n xs ≡ None
  none_at n zero xs h = above_none n xs h
  none_at n (suc place) [] h = absurd h
  none_at n (suc place) (x ∷ xs) h = row_behind key n x xs (λ e. absurd (omega (arith, h.0))) ∙ none_at n place xs h.1

  -- ---- removal

  above_without_same : (n : ℕ) (xs : List A) → AllAbove key n xs → without key n xs ≡ xs
  above_without_same n [] h = refl
  above_without_same n (x ∷ xs) h = without_behind key n x xs (λ e. absurd (omega (arith, h.0))) ∙ ap (λ (l : List A). x ∷ l) (above_without_same n xs h.1)

  pub without_gap : (n place : ℕ) (xs : List A) → IsGap key n place xs → without key n xs ≡ xs
  without_gap n zero xs h = above_without_same n xs h
  without_gap n (suc place) [] h = absurd h
  without_gap n (suc place) (x ∷ xs) h = without_behind key n x xs (λ e. absurd (omega (arith, h.0))) ∙ ap (λ (l : List A). x ∷ l) (without_gap n place xs h.1)

  pub without_at : (n place : ℕ) (xs : List A) → Rises key xs → IsAt key n place xs → without key n xs ≡ holes.remove xs place
  without_at n place [] r h = absurd h
  without_at n zero (x ∷ xs) r h = without_here key n x xs h ∙ above_without_same n xs (above_lower key n (key x) xs (omega arith) r.0)
  without_at n (suc place) (x ∷ xs) r h = without_behind key n x xs (λ e. absurd (omega (arith, h.0))) ∙ ap (λ (l : List A). x ∷ l) (without_at n place xs r.1 h.1)

  -- ---- a put

  insert_above : (x : A) (xs : List A) → AllAbove key (key x) xs → insert key x xs ≡ x ∷ xs
  insert_above x [] h = refl
  insert_above x (y ∷ ys) h = insert_here key x y ys h.0

  insert_gap : (place : ℕ) (x : A) (xs : List A) → IsGap key (key x) place xs → insert key x xs ≡ holes.insert xs place x
  insert_gap zero x xs h = insert_above x xs h
  insert_gap (suc place) x [] h = absurd h
  insert_gap (suc place) x (y ∷ ys) h = insert_behind key x y ys (omega (arith, h.0)) ∙ ap (λ (l : List A). y ∷ l) (insert_gap place x ys h.1)

  pub put_gap : (place : ℕ) (x : A) (xs : List A) → IsGap key (key x) place xs → put key x xs ≡ holes.insert xs place x
  put_gap place x xs h = ap (λ (l : List A). insert key x l) (without_gap (key x) place xs h) ∙ insert_gap place x xs h

  pub put_at : (place : ℕ) (x : A) (xs : List A) → Rises key xs → IsAt key (key x) place xs → put key x xs ≡ set xs place x
  put_at place x [] r h = absurd h
  put_at zero x (y ∷ ys) r h =
      let above : AllAbove key (key x) ys = above_lower key (key x) (key y) ys (omega arith) r.0 in
      ap (λ (l : List A). insert key x l) (without_here key (key x) y ys h ∙ above_without_same (key x) ys above) ∙ insert_above x ys above
  put_at (suc place) x (y ∷ ys) r h =
      ap (λ (l : List A). insert key x l) (without_behind key (key x) y ys (λ e. absurd (omega (arith, h.0))))
      ∙ insert_behind key x y (without key (key x) ys) (omega (arith, h.0))
      ∙ ap (λ (l : List A). y ∷ l) (put_at place x ys r.1 h.1)

  -- ---- a search by halves

  pub above_at : (a j : ℕ) (xs : List A) (d : A) → AllAbove key a xs → j < length xs → a < key (get_or xs j d)
  above_at a j [] d h l = absurd (omega arith)
  above_at a zero (x ∷ xs) d h l = h.0
  above_at a (suc j) (x ∷ xs) d h l = above_at a j xs d h.1 (omega arith)

  pub keys_rise : (xs : List A) → Rises key xs → IsNonDecreasingBy key xs
  keys_rise [] h i j d l m = absurd (omega arith)
  keys_rise (x ∷ xs) h zero zero d l m = omega arith
  keys_rise (x ∷ xs) h zero (suc j) d l m = let a = above_at (key x) j xs d h.0 (omega arith) in omega arith
  keys_rise (x ∷ xs) h (suc i) zero d l m = absurd (omega arith)
  keys_rise (x ∷ xs) h (suc i) (suc j) d l m = keys_rise xs h.1 i j d (omega arith) (omega arith)

  at_point : (n place : ℕ) (xs : List A) (d : A) → place < length xs → AllWithin (λ x. nat_lt (key x) n ≡ true) xs 0 place → key (get_or xs place d) ≡ n → IsAt key n place xs
  at_point n place [] d l lower e = absurd (omega arith)
  at_point n zero (x ∷ xs) d l lower e = e
  at_point n (suc place) (x ∷ xs) d l lower e =
      (ltb-true (key x) n (lower 0 x (omega arith) (omega arith)), at_point n place xs d (omega arith) (λ k f a b. lower (suc k) f (omega arith) (omega arith)) e)

  gap_point : (n place : ℕ) (xs : List A) → Rises key xs → place ≤ length xs → AllWithin (λ x. nat_lt (key x) n ≡ true) xs 0 place → AllWithin (λ x. nat_lt (key x) n ≡ false) xs place (length xs)
      → ((d : A) → place < length xs → ¬ (key (get_or xs place d) ≡ n)) → IsGap key n place xs
  gap_point n zero [] r l lower others ne = tt
  gap_point n (suc place) [] r l lower others ne = absurd (omega arith)
  gap_point n zero (x ∷ xs) r l lower others ne =
      let le : n ≤ key x = ltb-false (key x) n (others 0 x (omega arith) (omega arith)) in
      let lt : n < key x = omega (arith, ne x (omega arith)) in
      (lt, above_lower key n (key x) xs (omega arith) r.0)
  gap_point n (suc place) (x ∷ xs) r l lower others ne = (
    ltb-true (key x) n (lower 0 x (omega arith) (omega arith)),
    gap_point n place xs r.1 (omega arith) (λ k f a b. lower (suc k) f (omega arith) (omega arith)) (λ k f a b. others (suc k) f (omega arith) (omega arith)) (λ d a. ne d (omega arith)),
  )

  -- what a search for the first row that is not lower found
  pub searched_at : (n place : ℕ) (xs : List A) (d : A) → place < length xs → IsPartitionPoint (λ x. nat_lt (key x) n ≡ true) (λ x. nat_lt (key x) n ≡ false) xs place
      → key (get_or xs place d) ≤ n → IsAt key n place xs
  searched_at n place xs d l point le =
      let ge : n ≤ key (get_or xs place d) = ltb-false (key (get_or xs place d)) n (point.1 place d (omega arith) l) in
      at_point n place xs d l point.0 (omega arith)

  pub searched_gap : (n place : ℕ) (xs : List A) → Rises key xs → place ≤ length xs → IsPartitionPoint (λ x. nat_lt (key x) n ≡ true) (λ x. nat_lt (key x) n ≡ false) xs place
      → ((d : A) → place < length xs → ¬ (key (get_or xs place d) ≡ n)) → IsGap key n place xs
  searched_gap n place xs r l point ne = gap_point n place xs r l point.0 point.1 ne

  -- ---- a place at which rows are looked for first

  same_inside : (i : ℕ) (xs : List A) (d e : A) → i < length xs → get_or xs i d ≡ get_or xs i e
  same_inside i [] d e l = absurd (omega arith)
  same_inside zero (x ∷ xs) d e l = refl
  same_inside (suc i) (x ∷ xs) d e l = same_inside i xs d e (omega arith)

  pub all_lower : (n place : ℕ) (xs : List A) (d : A) → Rises key xs → 0 < place → place ≤ length xs → key (get_or xs (place - 1) d) < n → AllWithin (λ x. nat_lt (key x) n ≡ true) xs 0 place
  all_lower n place xs d r some l last k f a b =
      let up : key (get_or xs k f) ≤ key (get_or xs (place - 1) f) = keys_rise xs r k (place - 1) f (omega arith) (omega arith) in
      let same : key (get_or xs (place - 1) f) ≡ key (get_or xs (place - 1) d) = ap key (same_inside (place - 1) xs f d (omega arith)) in
      lt-ltb (key (get_or xs k f)) n (omega (arith, up, same, last))

  pub none_lower : (n place : ℕ) (xs : List A) (d : A) → Rises key xs → place < length xs → n ≤ key (get_or xs place d) → AllWithin (λ x. nat_lt (key x) n ≡ false) xs place (length xs)
  none_lower n place xs d r l first k f a b =
      let up : key (get_or xs place f) ≤ key (get_or xs k f) = keys_rise xs r place k f (omega arith) (omega arith) in
      let same : key (get_or xs place f) ≡ key (get_or xs place d) = ap key (same_inside place xs f d l) in
      le-ltb (key (get_or xs k f)) n (omega (arith, up, same, first))

  -- a row inside is the same at each default
  pub above_not : (n place : ℕ) (xs : List A) (d e : A) → place < length xs → n < key (get_or xs place d) → ¬ (key (get_or xs place e) ≡ n)
  above_not n place [] d e l h f = absurd (omega arith)
  above_not n zero (x ∷ xs) d e l h f = absurd (omega arith)
  above_not n (suc place) (x ∷ xs) d e l h f = above_not n place xs d e (omega arith) h f

  -- ---- rows from a key on

  pub drop_point : (n place : ℕ) (xs : List A) → place ≤ length xs → IsPartitionPoint (λ x. nat_lt (key x) n ≡ true) (λ x. nat_lt (key x) n ≡ false) xs place
      → drop place xs ≡ rows_from key n xs
  drop_point n zero [] l point = refl
  drop_point n (suc place) [] l point = absurd (omega arith)
  drop_point n zero (x ∷ xs) l point = sym (cond-false (nat_lt (key x) n) (rows_from key n xs) (x ∷ xs) (point.1 0 x (omega arith) (omega arith)))
  drop_point n (suc place) (x ∷ xs) l point =
      drop_point n place xs (omega arith) (λ k f a b. point.0 (suc k) f (omega arith) (omega arith), λ k f a b. point.1 (suc k) f (omega arith) (omega arith))
      ∙ sym (cond-true (nat_lt (key x) n) (rows_from key n xs) (x ∷ xs) (point.0 0 x (omega arith) (omega arith)))

  pub take_point : (n place : ℕ) (xs : List A) → place ≤ length xs → IsPartitionPoint (λ x. nat_lt (key x) n ≡ true) (λ x. nat_lt (key x) n ≡ false) xs place
      → take place xs ≡ rows_before key n xs
  take_point n zero [] l point = refl
  take_point n (suc place) [] l point = absurd (omega arith)
  take_point n zero (x ∷ xs) l point = sym (cond-false (nat_lt (key x) n) (x ∷ rows_before key n xs) [] (point.1 0 x (omega arith) (omega arith)))
  take_point n (suc place) (x ∷ xs) l point =
      ap (λ (l : List A). x ∷ l) (take_point n place xs (omega arith) (λ k f a b. point.0 (suc k) f (omega arith) (omega arith), λ k f a b. point.1 (suc k) f (omega arith) (omega arith)))
      ∙ sym (cond-true (nat_lt (key x) n) (x ∷ rows_before key n xs) [] (point.0 0 x (omega arith) (omega arith)))

  pub rises_drop : (place : ℕ) (xs : List A) → Rises key xs → Rises key (drop place xs)
  rises_drop zero xs h = h
  rises_drop (suc place) [] h = tt
  rises_drop (suc place) (x ∷ xs) h = rises_drop place xs h.1

  -- ---- order by neighbours

  pub rises_from_adjacent : (xs : List A) → AllAdjacentBelow (λ x y. key x < key y) xs (length xs) → Rises key xs
  rises_from_adjacent [] h = tt
  rises_from_adjacent (x ∷ []) h = (tt, tt)
  rises_from_adjacent (x ∷ y ∷ ys) h =
      let rest : Rises key (y ∷ ys) = rises_from_adjacent (y ∷ ys) (λ k d l.
      let q : suc k + 1 ≡ suc (k + 1) = omega arith in
      subst (λ (n : ℕ). key (get_or (y ∷ ys) k d) < key (get_or (x ∷ y ∷ ys) n d)) q (h (suc k) d (omega arith))) in
      let lower : key x < key y = h 0 x (omega arith) in
      ((lower, above_lower key (key x) (key y) ys (omega arith) rest.0), rest)

  pub adjacent_rise : (i : ℕ) (xs : List A) (d e : A) → Rises key xs → i + 1 < length xs → key (get_or xs i d) < key (get_or xs (i + 1) e)
  adjacent_rise i [] d e h l = absurd (omega arith)
  adjacent_rise zero (x ∷ xs) d e h l = above_at (key x) 0 xs e h.0 (omega arith)
  adjacent_rise (suc i) (x ∷ xs) d e h l =
      let q : suc (i + 1) ≡ suc i + 1 = omega arith in
      subst (λ (n : ℕ). key (get_or xs i d) < key (get_or (x ∷ xs) n e)) q (adjacent_rise i xs d e h.1 (omega arith))
