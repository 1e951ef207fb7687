-- Tables of seats have room for one row more.
use Rattle.std.proofs.Common.{◌≡◌, ◌<◌, ◌≤◌, ◌+◌, ℕ, suc, Bool, true, false, List, [], ◌∷◌, ◌++◌, length, take, drop, get_or, refl, sym, ap, subst, ◌∙◌, ⊎_elim, arith}
use Rattle.std.specs.List.{AllByRecursion}
use Rattle.std.specs.Prelude.{nat_lt, if◌then◌else◌}
use Rattle.std.proofs.lemmas.Bool.{cases_eq}
use Rattle.std.proofs.lemmas.List.{take-append-drop, take_more}
use Rattle.std.proofs.Math.Seq.{drop-cons}
use Rattle.sms_rows.specs.table.Table.{AllAbove, Rises, insert, put, without}
use Rattle.sms_rows.proofs.table.Tables.{insert_behind, without_behind, without_here}
use Rattle.smsc_service.specs.Room.{AreSeats}

module _ {A : Type 0} (key : A → ℕ) where
  -- keys that rise from one on, below another
  few_from : (a n : ℕ) (xs : List A) → a ≤ n → AllByRecursion (λ x. a ≤ key x) xs → AllByRecursion (λ x. key x < n) xs → Rises key xs → a + length xs ≤ n
  few_from a n [] from lower upper rises = omega (arith, from)
  few_from a n (x ∷ xs) from lower upper rises =
      let more = few_from (suc (key x)) n xs (omega (arith, upper.0)) (above_from xs rises.0) upper.1 rises.1 in
      omega (arith, more, lower.0)
    where
      above_from : (ys : List A) → AllAbove key (key x) ys → AllByRecursion (λ y. suc (key x) ≤ key y) ys
      above_from [] h = tt
      above_from (y ∷ ys) h = (omega (arith, h.0), above_from ys h.1)

  all_from_none : (xs : List A) → AllByRecursion (λ x. 0 ≤ key x) xs
  all_from_none [] = tt
  all_from_none (x ∷ xs) = (omega arith, all_from_none xs)

  -- at most one row a seat
  pub few : (xs : List A) → AreSeats key xs → Rises key xs → length xs ≤ 32
  few xs seats rises = let n = few_from 0 32 xs (omega arith) (all_from_none xs) seats rises in omega (arith, n)

  chosen : (b : Bool) (xs ys : List A) → AreSeats key xs → AreSeats key ys → AreSeats key (if b then xs else ys)
  chosen true xs ys h k = h
  chosen false xs ys h k = k

  seats_insert : (x : A) (xs : List A) → key x < 32 → AreSeats key xs → AreSeats key (insert key x xs)
  seats_insert x [] here seats = (here, tt)
  seats_insert x (y ∷ ys) here seats = chosen (nat_lt (key x) (key y)) (x ∷ y ∷ ys) (y ∷ insert key x ys) (here, seats) (seats.0, seats_insert x ys here seats.1)

  pub seats_without : (n : ℕ) (xs : List A) → AreSeats key xs → AreSeats key (without key n xs)
  seats_without n [] seats = tt
  seats_without n (y ∷ ys) seats = ⊎_elim
      (λ (e : key y ≡ n). subst (λ (l : List A). AreSeats key l) (sym (without_here key n y ys e)) (seats_without n ys seats.1))
      (λ (ne : key y ≡ n → ⊥). subst (λ (l : List A). AreSeats key l) (sym (without_behind key n y ys ne)) (seats.0, seats_without n ys seats.1))
      (cases_eq (key y) n)

  pub seats_put : (x : A) (xs : List A) → key x < 32 → AreSeats key xs → AreSeats key (put key x xs)
  seats_put x xs here seats = seats_insert x (without key (key x) xs) here (seats_without (key x) xs seats)

  -- ---- the rows from a seat on

  pub from_next : (n m : ℕ) (xs : List A) → m ≡ n + 1 → AllByRecursion (λ x. n ≤ key x) xs → AllByRecursion (λ x. m ≤ key x) (without key n xs)
  from_next n m [] is from = tt
  from_next n m (y ∷ ys) is from = ⊎_elim
      (λ (e : key y ≡ n). subst (λ (l : List A). AllByRecursion (λ x. m ≤ key x) l) (sym (without_here key n y ys e)) (from_next n m ys is from.1))
      (λ (ne : key y ≡ n → ⊥). subst (λ (l : List A). AllByRecursion (λ x. m ≤ key x) l) (sym (without_behind key n y ys ne)) (at_least ne, from_next n m ys is from.1))
      (cases_eq (key y) n)
    where
      at_least : (key y ≡ n → ⊥) → m ≤ key y
      at_least ne = let low = from.0 in omega (arith, low, is, (λ (e : key y ≡ n). ne e))

  pub from_first : (xs : List A) → AllByRecursion (λ x. 0 ≤ key x) xs
  from_first xs = all_from_none xs

  pub none_from : (xs : List A) → AllByRecursion (λ x. 32 ≤ key x) xs → AreSeats key xs → xs ≡ []
  none_from [] from seats = refl
  none_from (x ∷ xs) from seats = let low = from.0 in let high = seats.0 in absurd (omega (arith, low, high))

  -- ---- rows put in order

  below_first : (x y : A) (xs ys : List A) → Rises key (y ∷ (xs ++ x ∷ ys)) → key y < key x
  below_first x y [] ys rises = rises.0.0
  below_first x y (z ∷ zs) ys rises = below_first x y zs ys (rises.0.1, rises.1.1)

  all_below : (x : A) (xs ys : List A) → Rises key (xs ++ x ∷ ys) → AllByRecursion (λ y. key y < key x) xs
  all_below x [] ys rises = tt
  all_below x (y ∷ xs) ys rises = (below_first x y xs ys rises, all_below x xs ys rises.1)

  without_last : (x : A) (xs : List A) → AllByRecursion (λ y. key y < key x) xs → without key (key x) xs ≡ xs
  without_last x [] below = refl
  without_last x (y ∷ ys) below = without_behind key (key x) y ys (λ e. let low = below.0 in absurd (omega (arith, low, e))) ∙ ap (λ (l : List A). y ∷ l) (without_last x ys below.1)

  insert_last : (x : A) (xs : List A) → AllByRecursion (λ y. key y < key x) xs → insert key x xs ≡ xs ++ x ∷ []
  insert_last x [] below = refl
  insert_last x (y ∷ ys) below = let low = below.0 in insert_behind key x y ys (omega (arith, low)) ∙ ap (λ (l : List A). y ∷ l) (insert_last x ys below.1)

  -- a row with a greater key than all others is put behind them
  pub put_last : (x : A) (xs ys : List A) → Rises key (xs ++ x ∷ ys) → put key x xs ≡ xs ++ x ∷ []
  put_last x xs ys rises = let below = all_below x xs ys rises in ap (λ (l : List A). insert key x l) (without_last x xs below) ∙ insert_last x xs below

  -- of rows in order one more is put
  pub one_put : (rows : List A) (i : ℕ) (x : A) → i < length rows → x ≡ get_or rows i x → Rises key rows → put key x (take i rows) ≡ take (i + 1) rows
  one_put rows i x low is rises =
      let here : x ∷ drop (suc i) rows ≡ drop i rows = ap (λ (y : A). y ∷ drop (suc i) rows) is ∙ sym (drop-cons rows i x low) in
      let whole : take i rows ++ x ∷ drop (suc i) rows ≡ rows = ap (λ (l : List A). take i rows ++ l) here ∙ take-append-drop i rows in
      put_last x (take i rows) (drop (suc i) rows) (subst (λ (l : List A). Rises key l) (sym whole) rises)
      ∙ ap (λ (y : A). take i rows ++ y ∷ []) is ∙ sym (take_more rows i x low)
