-- Laws of tables and their changes, for the crates that keep rows.
use Rattle.std.proofs.Common.{◌≡◌, ◌⊎◌, ℕ, zero, suc, ◌+◌, ◌<◌, ◌≤◌, arith, List, [], ◌∷◌, ◌++◌, cond, refl, sym, ◌∙◌, ap, subst, length, drop, get_or, inl, inr, ⊎_elim, Option, Some, None, eq-eqb}
use Rattle.std.specs.Prelude.{◌==◌, nat_lt, nat_le, max, ◌*◌}
use Rattle.std.proofs.lemmas.Bool.{cases_eq, cases_lt, lt-leb, cond-true, cond-false, ne_eqb, lt-ltb, le-ltb}
use Rattle.sms_base.specs.Among.{Among}
use Rattle.sms_rows.specs.table.Table.{row_at, without, insert, put, AllAbove, Rises, applied, all_applied, change_key, change_row, latest, newest_of, left_by, RowsInMemory, HasRoom, reserve_for}
use Rattle.sms_rows.specs.declared.table.change.Change.{Change}
use Rattle.sms_rows.specs.declared.table.change.Change.TheVariants.{Put, Remove}

module _ {A : Type 0} (key : A → ℕ) where
  -- ---- each word at a first row

  pub row_here : (n : ℕ) (x : A) (xs : List A) → key x ≡ n → row_at key n (x ∷ xs) ≡ Some x
  row_here n x xs e = cond-true (key x == n) (Some x) (row_at key n xs) (eq-eqb (key x) n e)

  pub row_behind : (n : ℕ) (x : A) (xs : List A) → ¬ (key x ≡ n) → row_at key n (x ∷ xs) ≡ row_at key n xs
  row_behind n x xs e = cond-false (key x == n) (Some x) (row_at key n xs) (ne_eqb (key x) n e)

  pub without_here : (n : ℕ) (x : A) (xs : List A) → key x ≡ n → without key n (x ∷ xs) ≡ without key n xs
  without_here n x xs e = cond-true (key x == n) (without key n xs) (x ∷ without key n xs) (eq-eqb (key x) n e)

  pub without_behind : (n : ℕ) (x : A) (xs : List A) → ¬ (key x ≡ n) → without key n (x ∷ xs) ≡ x ∷ without key n xs
  without_behind n x xs e = cond-false (key x == n) (without key n xs) (x ∷ without key n xs) (ne_eqb (key x) n e)

  pub insert_here : (x y : A) (ys : List A) → key x < key y → insert key x (y ∷ ys) ≡ x ∷ y ∷ ys
  insert_here x y ys l = cond-true (nat_lt (key x) (key y)) (x ∷ y ∷ ys) (y ∷ insert key x ys) (lt-ltb (key x) (key y) l)

  pub insert_behind : (x y : A) (ys : List A) → key y ≤ key x → insert key x (y ∷ ys) ≡ y ∷ insert key x ys
  insert_behind x y ys l = cond-false (nat_lt (key x) (key y)) (x ∷ y ∷ ys) (y ∷ insert key x ys) (le-ltb (key x) (key y) l)

  -- ---- look-ups

  -- a row is found under its key
  pub found_key : (n : ℕ) (x : A) (xs : List A) → row_at key n xs ≡ Some x → key x ≡ n
  found_key n x [] e = absurd cc
  found_key n x (y ∷ ys) e = ⊎_elim
      (λ (h : key y ≡ n). let same : Some y ≡ Some x = sym (row_here n y ys h) ∙ e in let q : y ≡ x = cc in ap key (sym q) ∙ h)
      (λ (h : key y ≡ n → ⊥). found_key n x ys (sym (row_behind n y ys h) ∙ e))
      (cases_eq (key y) n)

  pub row_at_without : (n : ℕ) (xs : List A) → row_at key n (without key n xs) ≡ None
  row_at_without n [] = refl
  row_at_without n (y ∷ ys) = ⊎_elim
      (λ (h : key y ≡ n). ap (λ (l : List A). row_at key n l) (without_here n y ys h) ∙ row_at_without n ys)
      (λ (h : key y ≡ n → ⊥). ap (λ (l : List A). row_at key n l) (without_behind n y ys h) ∙ row_behind n y (without key n ys) h ∙ row_at_without n ys)
      (cases_eq (key y) n)

  pub row_at_without_other : (m n : ℕ) (xs : List A) → ¬ (m ≡ n) → row_at key n (without key m xs) ≡ row_at key n xs
  row_at_without_other m n [] ne = refl
  row_at_without_other m n (y ∷ ys) ne = ⊎_elim
      (λ (h : key y ≡ m).
      ap (λ (l : List A). row_at key n l) (without_here m y ys h) ∙ row_at_without_other m n ys ne
      ∙ sym (row_behind n y ys (λ e. ne (sym h ∙ e))))
      (λ (h : key y ≡ m → ⊥). ap (λ (l : List A). row_at key n l) (without_behind m y ys h) ∙ ⊎_elim
      (λ (e : key y ≡ n). row_here n y (without key m ys) e ∙ sym (row_here n y ys e))
      (λ (e : key y ≡ n → ⊥). row_behind n y (without key m ys) e ∙ row_at_without_other m n ys ne ∙ sym (row_behind n y ys e))
      (cases_eq (key y) n))
      (cases_eq (key y) m)

  row_at_insert : (x : A) (xs : List A) → row_at key (key x) xs ≡ None → row_at key (key x) (insert key x xs) ≡ Some x
  row_at_insert x [] e = row_here (key x) x [] refl
  row_at_insert x (y ∷ ys) e = ⊎_elim
      (λ (h : key x < key y). ap (λ (l : List A). row_at key (key x) l) (insert_here x y ys h) ∙ row_here (key x) x (y ∷ ys) refl)
      (λ (h : key y ≤ key x). ap (λ (l : List A). row_at key (key x) l) (insert_behind x y ys h) ∙ ⊎_elim
      (λ (f : key y ≡ key x). let bad : Some y ≡ None = sym (row_here (key x) y ys f) ∙ e in absurd cc)
      (λ (f : key y ≡ key x → ⊥). row_behind (key x) y (insert key x ys) f ∙ row_at_insert x ys (sym (row_behind (key x) y ys f) ∙ e))
      (cases_eq (key y) (key x)))
      (cases_lt (key x) (key y))

  row_at_insert_other : (n : ℕ) (x : A) (xs : List A) → ¬ (key x ≡ n) → row_at key n (insert key x xs) ≡ row_at key n xs
  row_at_insert_other n x [] ne = row_behind n x [] ne
  row_at_insert_other n x (y ∷ ys) ne = ⊎_elim
      (λ (h : key x < key y). ap (λ (l : List A). row_at key n l) (insert_here x y ys h) ∙ row_behind n x (y ∷ ys) ne)
      (λ (h : key y ≤ key x). ap (λ (l : List A). row_at key n l) (insert_behind x y ys h) ∙ ⊎_elim
      (λ (f : key y ≡ n). row_here n y (insert key x ys) f ∙ sym (row_here n y ys f))
      (λ (f : key y ≡ n → ⊥). row_behind n y (insert key x ys) f ∙ row_at_insert_other n x ys ne ∙ sym (row_behind n y ys f))
      (cases_eq (key y) n))
      (cases_lt (key x) (key y))

  pub row_at_put : (x : A) (xs : List A) → row_at key (key x) (put key x xs) ≡ Some x
  row_at_put x xs = row_at_insert x (without key (key x) xs) (row_at_without (key x) xs)

  pub row_at_put_other : (n : ℕ) (x : A) (xs : List A) → ¬ (key x ≡ n) → row_at key n (put key x xs) ≡ row_at key n xs
  row_at_put_other n x xs ne = row_at_insert_other n x (without key (key x) xs) ne ∙ row_at_without_other (key x) n xs ne

  -- ---- order

  pub above_lower : (a b : ℕ) (xs : List A) → a ≤ b → AllAbove key b xs → AllAbove key a xs
  above_lower a b [] l h = tt
  above_lower a b (x ∷ xs) l h = (omega (arith, h.0), above_lower a b xs l h.1)

  pub above_without : (a n : ℕ) (xs : List A) → AllAbove key a xs → AllAbove key a (without key n xs)
  above_without a n [] h = tt
  above_without a n (x ∷ xs) h = ⊎_elim
      (λ (e : key x ≡ n). subst (λ (l : List A). AllAbove key a l) (sym (without_here n x xs e)) (above_without a n xs h.1))
      (λ (e : key x ≡ n → ⊥). subst (λ (l : List A). AllAbove key a l) (sym (without_behind n x xs e)) (h.0, above_without a n xs h.1))
      (cases_eq (key x) n)

  pub rises_without : (n : ℕ) (xs : List A) → Rises key xs → Rises key (without key n xs)
  rises_without n [] h = tt
  rises_without n (x ∷ xs) h = ⊎_elim
      (λ (e : key x ≡ n). subst (λ (l : List A). Rises key l) (sym (without_here n x xs e)) (rises_without n xs h.1))
      (λ (e : key x ≡ n → ⊥). subst (λ (l : List A). Rises key l) (sym (without_behind n x xs e)) (above_without (key x) n xs h.0, rises_without n xs h.1))
      (cases_eq (key x) n)

  above_insert : (a : ℕ) (x : A) (xs : List A) → a < key x → AllAbove key a xs → AllAbove key a (insert key x xs)
  above_insert a x [] l h = (l, tt)
  above_insert a x (y ∷ ys) l h = ⊎_elim
      (λ (e : key x < key y). subst (λ (r : List A). AllAbove key a r) (sym (insert_here x y ys e)) (l, h))
      (λ (e : key y ≤ key x). subst (λ (r : List A). AllAbove key a r) (sym (insert_behind x y ys e)) (h.0, above_insert a x ys l h.1))
      (cases_lt (key x) (key y))

  rises_insert : (x : A) (xs : List A) → row_at key (key x) xs ≡ None → Rises key xs → Rises key (insert key x xs)
  rises_insert x [] none h = (tt, tt)
  rises_insert x (y ∷ ys) none h = ⊎_elim
      (λ (e : key x < key y). subst (λ (r : List A). Rises key r) (sym (insert_here x y ys e)) ((e, above_lower (key x) (key y) ys (omega arith) h.0), h))
      (λ (e : key y ≤ key x). subst (λ (r : List A). Rises key r) (sym (insert_behind x y ys e)) (⊎_elim
      (λ (f : key y ≡ key x). let bad : Some y ≡ None = sym (row_here (key x) y ys f) ∙ none in absurd cc)
      (λ (f : key y ≡ key x → ⊥).
      (above_insert (key y) x ys (omega (arith, f)) h.0, rises_insert x ys (sym (row_behind (key x) y ys f) ∙ none) h.1))
      (cases_eq (key y) (key x))))
      (cases_lt (key x) (key y))

  pub rises_put : (x : A) (xs : List A) → Rises key xs → Rises key (put key x xs)
  rises_put x xs h = rises_insert x (without key (key x) xs) (row_at_without (key x) xs) (rises_without (key x) xs h)

  -- ---- membership

  pub found_among : (n : ℕ) (x : A) (xs : List A) → row_at key n xs ≡ Some x → Among x xs
  found_among n x [] e = absurd cc
  found_among n x (y ∷ ys) e = ⊎_elim
      (λ (h : key y ≡ n). let same : Some x ≡ Some y = sym e ∙ row_here n y ys h in let q : x ≡ y = cc in inl q)
      (λ (h : key y ≡ n → ⊥). inr (found_among n x ys (sym (row_behind n y ys h) ∙ e)))
      (cases_eq (key y) n)

  above_among : (a : ℕ) (x : A) (xs : List A) → AllAbove key a xs → Among x xs → a < key x
  above_among a x [] h m = elim m [ ]
  above_among a x (y ∷ ys) h m = ⊎_elim
      (λ (e : x ≡ y). subst (λ (z : A). a < key z) (sym e) h.0)
      (λ (r : Among x ys). above_among a x ys h.1 r)
      m

  -- where the keys rise, a row stands under its key
  pub among_found : (x : A) (xs : List A) → Rises key xs → Among x xs → row_at key (key x) xs ≡ Some x
  among_found x [] h m = elim m [ ]
  among_found x (y ∷ ys) h m = ⊎_elim
      (λ (e : x ≡ y). row_here (key x) y ys (ap key (sym e)) ∙ ap (λ (z : A). Some z) (sym e))
      (λ (r : Among x ys). let l = above_among (key y) x ys h.0 r in
      row_behind (key x) y ys (λ e. absurd (omega arith)) ∙ among_found x ys h.1 r)
      m

  pub among_without : (x : A) (n : ℕ) (xs : List A) → Among x (without key n xs) → Among x xs × ¬ (key x ≡ n)
  among_without x n [] m = elim m [ ]
  among_without x n (y ∷ ys) m = ⊎_elim
      (λ (e : key y ≡ n). let r = among_without x n ys (subst (λ (l : List A). Among x l) (without_here n y ys e) m) in (inr r.0, r.1))
      (λ (e : key y ≡ n → ⊥). ⊎_elim
      (λ (f : x ≡ y). (inl f, λ g. e (ap key (sym f) ∙ g)))
      (λ (r : Among x (without key n ys)). let s = among_without x n ys r in (inr s.0, s.1))
      (subst (λ (l : List A). Among x l) (without_behind n y ys e) m))
      (cases_eq (key y) n)

  pub without_among : (x : A) (n : ℕ) (xs : List A) → Among x xs → ¬ (key x ≡ n) → Among x (without key n xs)
  without_among x n [] m ne = m
  without_among x n (y ∷ ys) m ne = ⊎_elim
      (λ (e : key y ≡ n). subst (λ (l : List A). Among x l) (sym (without_here n y ys e)) (⊎_elim
      (λ (f : x ≡ y). absurd (ne (ap key f ∙ e)))
      (λ (r : Among x ys). without_among x n ys r ne)
      m))
      (λ (e : key y ≡ n → ⊥). subst (λ (l : List A). Among x l) (sym (without_behind n y ys e)) (⊎_elim
      (λ (f : x ≡ y). inl f)
      (λ (r : Among x ys). inr (without_among x n ys r ne))
      m))
      (cases_eq (key y) n)

  among_insert : (z x : A) (xs : List A) → Among z (insert key x xs) → (z ≡ x) ⊎ Among z xs
  among_insert z x [] m = m
  among_insert z x (y ∷ ys) m = ⊎_elim
      (λ (e : key x < key y). subst (λ (l : List A). Among z l) (insert_here x y ys e) m)
      (λ (e : key y ≤ key x). ⊎_elim
      (λ (f : z ≡ y). inr (inl f))
      (λ (r : Among z (insert key x ys)). ⊎_elim (λ (f : z ≡ x). inl f) (λ (s : Among z ys). inr (inr s)) (among_insert z x ys r))
      (subst (λ (l : List A). Among z l) (insert_behind x y ys e) m))
      (cases_lt (key x) (key y))

  insert_among : (z x : A) (xs : List A) → (z ≡ x) ⊎ Among z xs → Among z (insert key x xs)
  insert_among z x [] m = m
  insert_among z x (y ∷ ys) m = ⊎_elim
      (λ (e : key x < key y). subst (λ (l : List A). Among z l) (sym (insert_here x y ys e)) m)
      (λ (e : key y ≤ key x). subst (λ (l : List A). Among z l) (sym (insert_behind x y ys e)) (⊎_elim
      (λ (f : z ≡ x). inr (insert_among z x ys (inl f)))
      (λ (r : Among z (y ∷ ys)). ⊎_elim (λ (f : z ≡ y). inl f) (λ (s : Among z ys). inr (insert_among z x ys (inr s))) r)
      m))
      (cases_lt (key x) (key y))

  pub among_put : (z x : A) (xs : List A) → Among z (put key x xs) → (z ≡ x) ⊎ (Among z xs × ¬ (key z ≡ key x))
  among_put z x xs m = ⊎_elim
      (λ (e : z ≡ x). inl e)
      (λ (r : Among z (without key (key x) xs)). inr (among_without z (key x) xs r))
      (among_insert z x (without key (key x) xs) m)

  pub put_among : (z x : A) (xs : List A) → (z ≡ x) ⊎ (Among z xs × ¬ (key z ≡ key x)) → Among z (put key x xs)
  put_among z x xs m = insert_among z x (without key (key x) xs) (⊎_elim
      (λ (e : z ≡ x). inl e)
      (λ (r : Among z xs × ¬ (key z ≡ key x)). inr (without_among z (key x) xs r.0 r.1))
      m)

  -- ---- how many rows

  pub length_without : (n : ℕ) (xs : List A) → length (without key n xs) ≤ length xs
  length_without n [] = omega arith
  length_without n (x ∷ xs) = ⊎_elim
      (λ (e : key x ≡ n). let q = ap (λ (l : List A). length l) (without_here n x xs e) in omega (arith, q, length_without n xs))
      (λ (e : key x ≡ n → ⊥). let q = ap (λ (l : List A). length l) (without_behind n x xs e) in omega (arith, q, length_without n xs))
      (cases_eq (key x) n)

  length_insert : (x : A) (xs : List A) → length (insert key x xs) ≡ length xs + 1
  length_insert x [] = omega arith
  length_insert x (y ∷ ys) = ⊎_elim
      (λ (e : key x < key y). let q = ap (λ (l : List A). length l) (insert_here x y ys e) in omega (arith, q))
      (λ (e : key y ≤ key x). let q = ap (λ (l : List A). length l) (insert_behind x y ys e) in omega (arith, q, length_insert x ys))
      (cases_lt (key x) (key y))

  pub length_put : (x : A) (xs : List A) → length (put key x xs) ≤ length xs + 1
  length_put x xs = omega (arith, length_insert x (without key (key x) xs), length_without (key x) xs)

  -- ---- changes

  pub all_applied_append : (cs ds : List (Change A)) (xs : List A) → all_applied key (cs ++ ds) xs ≡ all_applied key ds (all_applied key cs xs)
  all_applied_append [] ds xs = refl
  all_applied_append (c ∷ cs) ds xs = all_applied_append cs ds (applied key c xs)

  pub all_applied_push : (cs : List (Change A)) (c : Change A) (xs : List A) → all_applied key (cs ++ c ∷ []) xs ≡ applied key c (all_applied key cs xs)
  all_applied_push cs c xs = all_applied_append cs (c ∷ []) xs

  pub rises_applied : (c : Change A) (xs : List A) → Rises key xs → Rises key (applied key c xs)
  rises_applied (Put x) xs h = rises_put x xs h
  rises_applied (Remove n) xs h = rises_without n xs h

  pub rises_all_applied : (cs : List (Change A)) (xs : List A) → Rises key xs → Rises key (all_applied key cs xs)
  rises_all_applied [] xs h = h
  rises_all_applied (c ∷ cs) xs h = rises_all_applied cs (applied key c xs) (rises_applied c xs h)

  pub length_applied : (c : Change A) (xs : List A) → length (applied key c xs) ≤ length xs + 1
  length_applied (Put x) xs = length_put x xs
  length_applied (Remove n) xs = omega (arith, length_without n xs)

  pub length_all_applied : (cs : List (Change A)) (xs : List A) → length (all_applied key cs xs) ≤ length xs + length cs
  length_all_applied [] xs = omega arith
  length_all_applied (c ∷ cs) xs = omega (arith, length_applied c xs, length_all_applied cs (applied key c xs))

  pub row_at_applied : (c : Change A) (xs : List A) → row_at key (change_key key c) (applied key c xs) ≡ change_row c
  row_at_applied (Put x) xs = row_at_put x xs
  row_at_applied (Remove n) xs = row_at_without n xs

  pub row_at_applied_other : (n : ℕ) (c : Change A) (xs : List A) → ¬ (change_key key c ≡ n) → row_at key n (applied key c xs) ≡ row_at key n xs
  row_at_applied_other n (Put x) xs ne = row_at_put_other n x xs ne
  row_at_applied_other n (Remove m) xs ne = row_at_without_other m n xs ne

  one_change : (n : ℕ) (c : Change A) (xs : List A) → row_at key n (applied key c xs) ≡ left_by (cond (change_key key c == n) (Some c) None) (row_at key n xs)
  one_change n c xs = ⊎_elim
      (λ (e : change_key key c ≡ n).
      subst (λ (m : ℕ). row_at key m (applied key c xs) ≡ change_row c) e (row_at_applied c xs)
      ∙ ap (λ (o : Option (Change A)). left_by o (row_at key n xs)) (sym (cond-true (change_key key c == n) (Some c) None (eq-eqb (change_key key c) n e))))
      (λ (e : change_key key c ≡ n → ⊥).
      row_at_applied_other n c xs e
      ∙ ap (λ (o : Option (Change A)). left_by o (row_at key n xs)) (sym (cond-false (change_key key c == n) (Some c) None (ne_eqb (change_key key c) n e))))
      (cases_eq (change_key key c) n)

  left_by_latest : (earlier later : Option (Change A)) (row : Option A) → left_by later (left_by earlier row) ≡ left_by (latest earlier later) row
  left_by_latest earlier (Some c) row = refl
  left_by_latest earlier None row = refl

  -- the row of a key after the changes: what the newest of them left, or else the row that stood there
  pub row_at_all_applied : (n : ℕ) (cs : List (Change A)) (xs : List A) → row_at key n (all_applied key cs xs) ≡ left_by (newest_of key n cs) (row_at key n xs)
  row_at_all_applied n [] xs = refl
  row_at_all_applied n (c ∷ cs) xs =
      row_at_all_applied n cs (applied key c xs)
      ∙ ap (λ (o : Option A). left_by (newest_of key n cs) o) (one_change n c xs)
      ∙ left_by_latest (cond (change_key key c == n) (Some c) None) (newest_of key n cs) (row_at key n xs)

  latest_assoc : (a b c : Option (Change A)) → latest a (latest b c) ≡ latest (latest a b) c
  latest_assoc a b (Some c) = refl
  latest_assoc a b None = refl

  pub newest_of_append : (n : ℕ) (cs ds : List (Change A)) → newest_of key n (cs ++ ds) ≡ latest (newest_of key n cs) (newest_of key n ds)
  newest_of_append n [] ds = none (newest_of key n ds) where
    none : (o : Option (Change A)) → o ≡ latest None o
    none (Some c) = refl
    none None = refl
  newest_of_append n (c ∷ cs) ds =
      ap (λ (o : Option (Change A)). latest (cond (change_key key c == n) (Some c) None) o) (newest_of_append n cs ds)
      ∙ latest_assoc (cond (change_key key c == n) (Some c) None) (newest_of key n cs) (newest_of key n ds)

  -- one more change: it is the newest of its key
  pub newest_of_push : (n : ℕ) (cs : List (Change A)) (c : Change A) → change_key key c ≡ n → newest_of key n (cs ++ c ∷ []) ≡ Some c
  newest_of_push n cs c e =
      newest_of_append n cs (c ∷ [])
      ∙ ap (λ (o : Option (Change A)). latest (newest_of key n cs) o) (cond-true (change_key key c == n) (Some c) None (eq-eqb (change_key key c) n e))

  pub newest_of_push_other : (n : ℕ) (cs : List (Change A)) (c : Change A) → ¬ (change_key key c ≡ n) → newest_of key n (cs ++ c ∷ []) ≡ newest_of key n cs
  newest_of_push_other n cs c e =
      newest_of_append n cs (c ∷ [])
      ∙ ap (λ (o : Option (Change A)). latest (newest_of key n cs) o) (cond-false (change_key key c == n) (Some c) None (ne_eqb (change_key key c) n e))

  -- a change behind which none of its key stands
  pub newest_at : (n j : ℕ) (cs : List (Change A)) (d : Change A) → j < length cs → newest_of key n (drop (suc j) cs) ≡ None → change_key key (get_or cs j d) ≡ n → newest_of key n cs ≡ Some (get_or cs j d)
  newest_at n j [] d l none e = absurd (omega arith)
  newest_at n zero (c ∷ cs) d l none e =
      ap (λ (o : Option (Change A)). latest (cond (change_key key c == n) (Some c) None) o) none
      ∙ cond-true (change_key key c == n) (Some c) None (eq-eqb (change_key key c) n e)
  newest_at n (suc j) (c ∷ cs) d l none e =
      ap (λ (o : Option (Change A)). latest (cond (change_key key c == n) (Some c) None) o) (newest_at n j cs d (omega arith) none e)

-- memory that was taken for more rows has room for them
pub reserve_has_room : {A : Type 0} (extra capacity : ℕ) (table : RowsInMemory A) → max table.capacity (reserve_for extra table) ≤ capacity → HasRoom extra (record table { capacity = capacity })
reserve_has_room extra capacity table h = ⊎_elim
    (λ (l : table.capacity < length table.rows + extra).
    let reserve = cond-false (nat_le (length table.rows + extra) table.capacity) 0 (2 * length table.rows + extra) (lt-leb (length table.rows + extra) table.capacity l) in
    omega (arith, reserve, h))
    (λ (l : length table.rows + extra ≤ table.capacity). omega (arith, h))
    (cases_lt table.capacity (length table.rows + extra))
