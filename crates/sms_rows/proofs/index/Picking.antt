-- What is kept of rows follows them: where one row changes, what is kept of it does.
use Rattle.std.proofs.Common.{◌≡◌, ℕ, ◌<◌, List, [], ◌∷◌, Option, Some, None, refl, sym, ◌∙◌, ap, subst, arith, ⊎_elim}
use Rattle.std.proofs.lemmas.Bool.{cases_eq}
use Rattle.sms_rows.specs.table.Table.{AllAbove, Rises, put, row_at}
use Rattle.sms_rows.proofs.table.Tables.{rises_put, rises_without, row_at_put, row_at_put_other, row_at_without, row_at_without_other, row_behind, row_here}
use Rattle.sms_rows.specs.index.Picked.{before_all, pick_of, picked, set_at}
use Rattle.sms_rows.proofs.table.Places.{above_none}

-- ---- rows in order are told by what stands under each key

module _ {A : Type 0} (key : A → ℕ) where
  above_at_key : (n : ℕ) (x : A) (xs : List A) → AllAbove key n xs → row_at key (key x) xs ≡ Some x → n < key x
  above_at_key n x [] h e = absurd cc
  above_at_key n x (y ∷ ys) h e = ⊎_elim
      (λ (f : key y ≡ key x). omega (arith, f, h.0))
      (λ (f : key y ≡ key x → ⊥). above_at_key n x ys h.1 (sym (row_behind key (key x) y ys f) ∙ e))
      (cases_eq (key y) (key x))

  some_row : (a b : A) → Some a ≡ Some b → a ≡ b
  some_row a b e = cc

  pub alike : (xs ys : List A) → Rises key xs → Rises key ys → ((n : ℕ) → row_at key n xs ≡ row_at key n ys) → xs ≡ ys
  alike [] [] h k same = refl
  alike [] (y ∷ ys) h k same = let bad : None ≡ Some y = same (key y) ∙ row_here key (key y) y ys refl in absurd cc
  alike (x ∷ xs) [] h k same = let bad : Some x ≡ None = sym (row_here key (key x) x xs refl) ∙ same (key x) in absurd cc
  alike (x ∷ xs) (y ∷ ys) h k same = ⊎_elim
      (λ (e : key y ≡ key x).
      let heads : x ≡ y = some_row x y (sym (row_here key (key x) x xs refl) ∙ same (key x) ∙ row_here key (key x) y ys e) in
      let tails : xs ≡ ys = alike xs ys h.1 k.1 (λ n. ⊎_elim
      (λ (f : key x ≡ n). subst (λ (m : ℕ). row_at key m xs ≡ row_at key m ys) f
      (above_none key (key x) xs h.0 ∙ sym (above_none key (key x) ys (subst (λ (m : ℕ). AllAbove key m ys) e k.0))))
      (λ (f : key x ≡ n → ⊥). sym (row_behind key n x xs f) ∙ same n ∙ row_behind key n y ys (λ g. f (sym e ∙ g)))
      (cases_eq (key x) n)) in
      ap (λ (z : A). z ∷ xs) heads ∙ ap (λ (zs : List A). y ∷ zs) tails)
      (λ (e : key y ≡ key x → ⊥).
      let there : row_at key (key x) ys ≡ Some x = sym (row_behind key (key x) y ys e) ∙ sym (same (key x)) ∙ row_here key (key x) x xs refl in
      let one : key y < key x = above_at_key (key y) x ys k.0 there in
      let here : row_at key (key y) xs ≡ Some y = sym (row_behind key (key y) x xs (λ f. e (sym f))) ∙ same (key y) ∙ row_here key (key y) y ys refl in
      let other : key x < key y = above_at_key (key x) y xs h.0 here in
      absurd (omega (arith, one, other)))
      (cases_eq (key y) (key x))

  -- ---- what is set under a key

  abbrev pub IsUnder : ℕ → Option A → Type 0
  IsUnder n None = Unit {0}
  IsUnder n (Some x) = key x ≡ n

  pub rises_set : (n : ℕ) (o : Option A) (xs : List A) → Rises key xs → Rises key (set_at key n o xs)
  rises_set n None xs h = rises_without key n xs h
  rises_set n (Some x) xs h = rises_put key x xs h

  pub set_here : (n : ℕ) (o : Option A) (xs : List A) → IsUnder n o → row_at key n (set_at key n o xs) ≡ o
  set_here n None xs under = row_at_without key n xs
  set_here n (Some x) xs under = subst (λ (m : ℕ). row_at key m (put key x xs) ≡ Some x) under (row_at_put key x xs)

  pub set_other : (n m : ℕ) (o : Option A) (xs : List A) → IsUnder n o → ¬ (n ≡ m) → row_at key m (set_at key n o xs) ≡ row_at key m xs
  set_other n m None xs under ne = row_at_without_other key n m xs ne
  set_other n m (Some x) xs under ne = row_at_put_other key m x xs (λ e. ne (sym under ∙ e))

-- ---- what is kept

module _ {A : Type 0} {B : Type 0} (key : A → ℕ) (own : B → ℕ) (pick : A → Option B) (keeps : (a : A) (b : B) → pick a ≡ Some b → own b ≡ key a) where
  above_kept : (n : ℕ) (a : A) (o : Option B) (bs : List B) → pick a ≡ o → n < key a → AllAbove own n bs → AllAbove own n (before_all o bs)
  above_kept n a None bs e l h = h
  above_kept n a (Some b) bs e l h = (omega (arith, keeps a b e, l), h)

  picked_above : (n : ℕ) (xs : List A) → AllAbove key n xs → AllAbove own n (picked pick xs)
  picked_above n [] h = tt
  picked_above n (x ∷ xs) h = above_kept n x (pick x) (picked pick xs) refl h.0 (picked_above n xs h.1)

  rises_kept : (a : A) (o : Option B) (bs : List B) → pick a ≡ o → AllAbove own (key a) bs → Rises own bs → Rises own (before_all o bs)
  rises_kept a None bs e above h = h
  rises_kept a (Some b) bs e above h = (subst (λ (n : ℕ). AllAbove own n bs) (sym (keeps a b e)) above, h)

  pub picked_rises : (xs : List A) → Rises key xs → Rises own (picked pick xs)
  picked_rises [] h = tt
  picked_rises (x ∷ xs) h = rises_kept x (pick x) (picked pick xs) refl (picked_above (key x) xs h.0) (picked_rises xs h.1)

  kept_here : (n : ℕ) (a : A) (o : Option B) (bs : List B) → pick a ≡ o → key a ≡ n → row_at own n bs ≡ None → row_at own n (before_all o bs) ≡ o
  kept_here n a None bs e f none = none
  kept_here n a (Some b) bs e f none = row_here own n b bs (keeps a b e ∙ f)

  kept_behind : (n : ℕ) (a : A) (o : Option B) (bs : List B) → pick a ≡ o → ¬ (key a ≡ n) → row_at own n (before_all o bs) ≡ row_at own n bs
  kept_behind n a None bs e f = refl
  kept_behind n a (Some b) bs e f = row_behind own n b bs (λ g. f (sym (keeps a b e) ∙ g))

  -- under each key stands what is kept of its row
  pub picked_at : (n : ℕ) (xs : List A) → Rises key xs → row_at own n (picked pick xs) ≡ pick_of pick (row_at key n xs)
  picked_at n [] h = refl
  picked_at n (x ∷ xs) h = ⊎_elim
      (λ (e : key x ≡ n).
      kept_here n x (pick x) (picked pick xs) refl e (above_none own n (picked pick xs) (subst (λ (m : ℕ). AllAbove own m (picked pick xs)) e (picked_above (key x) xs h.0)))
      ∙ ap (λ (o : Option A). pick_of pick o) (sym (row_here key n x xs e)))
      (λ (e : key x ≡ n → ⊥).
      kept_behind n x (pick x) (picked pick xs) refl e ∙ picked_at n xs h.1 ∙ ap (λ (o : Option A). pick_of pick o) (sym (row_behind key n x xs e)))
      (cases_eq (key x) n)

  under_kept : (a : A) (o : Option B) → pick a ≡ o → IsUnder own (key a) o
  under_kept a None e = tt
  under_kept a (Some b) e = keeps a b e

  -- one row changes
  pub picked_set : (before after : List A) (a : A) → Rises key before → Rises key after → row_at key (key a) after ≡ Some a → ((n : ℕ) → ¬ (key a ≡ n) → row_at key n after ≡ row_at key n before)
      → picked pick after ≡ set_at own (key a) (pick a) (picked pick before)
  picked_set before after a h k here others =
      let under = under_kept a (pick a) refl in
      alike own (picked pick after) (set_at own (key a) (pick a) (picked pick before)) (picked_rises after k) (rises_set own (key a) (pick a) (picked pick before) (picked_rises before h))
      (λ n. picked_at n after k ∙ ⊎_elim
      (λ (e : key a ≡ n).
      ap (λ (o : Option A). pick_of pick o) (ap (λ (m : ℕ). row_at key m after) (sym e) ∙ here)
      ∙ sym (ap (λ (m : ℕ). row_at own m (set_at own (key a) (pick a) (picked pick before))) (sym e) ∙ set_here own (key a) (pick a) (picked pick before) under))
      (λ (e : key a ≡ n → ⊥).
      ap (λ (o : Option A). pick_of pick o) (others n e) ∙ sym (picked_at n before h) ∙ sym (set_other own (key a) n (pick a) (picked pick before) under e))
      (cases_eq (key a) n))

  -- nothing changes of what is kept
  pub picked_same : (before after : List A) → Rises key before → Rises key after → ((n : ℕ) → pick_of pick (row_at key n after) ≡ pick_of pick (row_at key n before)) → picked pick after ≡ picked pick before
  picked_same before after h k same =
      alike own (picked pick after) (picked pick before) (picked_rises after k) (picked_rises before h) (λ n. picked_at n after k ∙ same n ∙ sym (picked_at n before h))
