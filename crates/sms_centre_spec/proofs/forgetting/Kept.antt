-- Lists without some rows.
use Rattle.std.proofs.Common.{◌≡◌, ℕ, ◌<◌, ◌≤◌, List, [], ◌∷◌, Bool, true, false, None, refl, sym, ◌∙◌, ap, subst, inl, inr, ⊎_elim, arith}
use Rattle.std.specs.Prelude.{◌⊎◌, ◌==◌, if◌then◌else◌}
use Rattle.std.proofs.lemmas.Bool.{cases_Bool, cases_eq, cases_lt, cond-true, cond-false}
use Rattle.sms_base.specs.Among.{Among}
use Rattle.sms_rows.specs.table.Table.{AllAbove, Rises, insert, put, row_at, without}
use Rattle.sms_rows.proofs.table.Tables.{above_lower, insert_behind, insert_here, rises_without, row_behind, row_here, without_behind, without_here}
use Rattle.sms_centre_rows.specs.declared.waiting.progress.Progress.{Progress}
use Rattle.sms_centre_rows.specs.waiting.Revisions.{amended}
use Rattle.sms_centre_spec.specs.forgetting.Forgetting.{kept}

pub not_both : (b : Bool) → b ≡ true → b ≡ false → ⊥
not_both b t f = let bad : true ≡ false = sym t ∙ f in absurd cc

module _ {A : Type 0} (id : A → ℕ) (goes : ℕ → Bool) where
  pub kept_gone : (x : A) (xs : List A) → goes (id x) ≡ true → kept id goes (x ∷ xs) ≡ kept id goes xs
  kept_gone x xs e = cond-true (goes (id x)) (kept id goes xs) (x ∷ kept id goes xs) e

  pub kept_here : (x : A) (xs : List A) → goes (id x) ≡ false → kept id goes (x ∷ xs) ≡ x ∷ kept id goes xs
  kept_here x xs e = cond-false (goes (id x)) (kept id goes xs) (x ∷ kept id goes xs) e

  pub kept_among : (y : A) (xs : List A) → Among y (kept id goes xs) → Among y xs × (goes (id y) ≡ false)
  kept_among y [] a = absurd a
  kept_among y (x ∷ xs) a = ⊎_elim
      (λ (t : goes (id x) ≡ true).
      let b : Among y (kept id goes xs) = subst (λ (l : List A). Among y l) (kept_gone x xs t) a in
      let c = kept_among y xs b in (inr c.0, c.1))
      (λ (t : goes (id x) ≡ false).
      let b : Among y (x ∷ kept id goes xs) = subst (λ (l : List A). Among y l) (kept_here x xs t) a in
      ⊎_elim
      (λ (e : y ≡ x). let is : Among y (x ∷ xs) × (goes (id y) ≡ false) = (inl e, ap (λ (z : A). goes (id z)) e ∙ t) in is)
      (λ (c : Among y (kept id goes xs)). let d = kept_among y xs c in let is : Among y (x ∷ xs) × (goes (id y) ≡ false) = (inr d.0, d.1) in is)
      b)
      (cases_Bool (goes (id x)))

  pub among_kept : (y : A) (xs : List A) → Among y xs → goes (id y) ≡ false → Among y (kept id goes xs)
  among_kept y [] a stays = absurd a
  among_kept y (x ∷ xs) a stays = ⊎_elim
      (λ (e : y ≡ x). subst (λ (l : List A). Among y l) (sym (kept_here x xs (ap (λ (z : A). goes (id z)) (sym e) ∙ stays))) (inl e))
      (λ (c : Among y xs). ⊎_elim
      (λ (t : goes (id x) ≡ true). subst (λ (l : List A). Among y l) (sym (kept_gone x xs t)) (among_kept y xs c stays))
      (λ (t : goes (id x) ≡ false). subst (λ (l : List A). Among y l) (sym (kept_here x xs t)) (inr (among_kept y xs c stays)))
      (cases_Bool (goes (id x))))
      a

  module _ (key : A → ℕ) where
    pub at_stays : (n : ℕ) (xs : List A) → ((y : A) → Among y xs → key y ≡ n → goes (id y) ≡ false) → row_at key n (kept id goes xs) ≡ row_at key n xs
    at_stays n [] f = refl
    at_stays n (x ∷ xs) f = ⊎_elim
        (λ (t : goes (id x) ≡ true).
        ap (λ (l : List A). row_at key n l) (kept_gone x xs t) ∙ at_stays n xs (λ y a. f y (inr a))
        ∙ sym (row_behind key n x xs (λ e. not_both (goes (id x)) t (f x (inl refl) e))))
        (λ (t : goes (id x) ≡ false). ap (λ (l : List A). row_at key n l) (kept_here x xs t) ∙ ⊎_elim
        (λ (e : key x ≡ n). row_here key n x (kept id goes xs) e ∙ sym (row_here key n x xs e))
        (λ (e : key x ≡ n → ⊥). row_behind key n x (kept id goes xs) e ∙ at_stays n xs (λ y a. f y (inr a)) ∙ sym (row_behind key n x xs e))
        (cases_eq (key x) n))
        (cases_Bool (goes (id x)))

    pub at_goes : (n : ℕ) (xs : List A) → ((y : A) → Among y xs → key y ≡ n → goes (id y) ≡ true) → row_at key n (kept id goes xs) ≡ None
    at_goes n [] f = refl
    at_goes n (x ∷ xs) f = ⊎_elim
        (λ (t : goes (id x) ≡ true). ap (λ (l : List A). row_at key n l) (kept_gone x xs t) ∙ at_goes n xs (λ y a. f y (inr a)))
        (λ (t : goes (id x) ≡ false).
        ap (λ (l : List A). row_at key n l) (kept_here x xs t)
        ∙ row_behind key n x (kept id goes xs) (λ e. not_both (goes (id x)) (f x (inl refl) e) t) ∙ at_goes n xs (λ y a. f y (inr a)))
        (cases_Bool (goes (id x)))

    pub above_kept : (n : ℕ) (xs : List A) → AllAbove key n xs → AllAbove key n (kept id goes xs)
    above_kept n [] h = h
    above_kept n (x ∷ xs) h = ⊎_elim
        (λ (t : goes (id x) ≡ true). subst (λ (l : List A). AllAbove key n l) (sym (kept_gone x xs t)) (above_kept n xs h.1))
        (λ (t : goes (id x) ≡ false). subst (λ (l : List A). AllAbove key n l) (sym (kept_here x xs t)) (h.0, above_kept n xs h.1))
        (cases_Bool (goes (id x)))

    pub rises_kept : (xs : List A) → Rises key xs → Rises key (kept id goes xs)
    rises_kept [] h = h
    rises_kept (x ∷ xs) h = ⊎_elim
        (λ (t : goes (id x) ≡ true). subst (λ (l : List A). Rises key l) (sym (kept_gone x xs t)) (rises_kept xs h.1))
        (λ (t : goes (id x) ≡ false). subst (λ (l : List A). Rises key l) (sym (kept_here x xs t)) (above_kept (key x) xs h.0, rises_kept xs h.1))
        (cases_Bool (goes (id x)))

    -- ---- a row is put that stays

    without_kept : (n : ℕ) (xs : List A) → kept id goes (without key n xs) ≡ without key n (kept id goes xs)
    without_kept n [] = refl
    without_kept n (x ∷ xs) = ⊎_elim
        (λ (e : key x ≡ n). ap (λ (l : List A). kept id goes l) (without_here key n x xs e) ∙ without_kept n xs ∙ ⊎_elim
        (λ (t : goes (id x) ≡ true). ap (λ (l : List A). without key n l) (sym (kept_gone x xs t)))
        (λ (t : goes (id x) ≡ false). sym (ap (λ (l : List A). without key n l) (kept_here x xs t) ∙ without_here key n x (kept id goes xs) e))
        (cases_Bool (goes (id x))))
        (λ (e : key x ≡ n → ⊥). ap (λ (l : List A). kept id goes l) (without_behind key n x xs e) ∙ ⊎_elim
        (λ (t : goes (id x) ≡ true). kept_gone x (without key n xs) t ∙ without_kept n xs ∙ ap (λ (l : List A). without key n l) (sym (kept_gone x xs t)))
        (λ (t : goes (id x) ≡ false).
        kept_here x (without key n xs) t ∙ ap (λ (l : List A). x ∷ l) (without_kept n xs)
        ∙ sym (ap (λ (l : List A). without key n l) (kept_here x xs t) ∙ without_behind key n x (kept id goes xs) e))
        (cases_Bool (goes (id x))))
        (cases_eq (key x) n)

    insert_front : (x : A) (ys : List A) → AllAbove key (key x) ys → insert key x ys ≡ x ∷ ys
    insert_front x [] h = refl
    insert_front x (y ∷ ys) h = insert_here key x y ys h.0

    insert_kept : (x : A) (ys : List A) → Rises key ys → goes (id x) ≡ false → kept id goes (insert key x ys) ≡ insert key x (kept id goes ys)
    insert_kept x [] h s = kept_here x [] s
    insert_kept x (y ∷ ys) h s = ⊎_elim
        (λ (l : key x < key y).
        ap (λ (l : List A). kept id goes l) (insert_here key x y ys l) ∙ kept_here x (y ∷ ys) s
        ∙ sym (insert_front x (kept id goes (y ∷ ys)) (above_kept (key x) (y ∷ ys) (l, above_lower key (key x) (key y) ys (omega arith) h.0))))
        (λ (l : key y ≤ key x). ap (λ (l : List A). kept id goes l) (insert_behind key x y ys l) ∙ ⊎_elim
        (λ (t : goes (id y) ≡ true). kept_gone y (insert key x ys) t ∙ insert_kept x ys h.1 s ∙ ap (λ (l : List A). insert key x l) (sym (kept_gone y ys t)))
        (λ (t : goes (id y) ≡ false).
        kept_here y (insert key x ys) t ∙ ap (λ (l : List A). y ∷ l) (insert_kept x ys h.1 s)
        ∙ sym (ap (λ (l : List A). insert key x l) (kept_here y ys t) ∙ insert_behind key x y (kept id goes ys) l))
        (cases_Bool (goes (id y))))
        (cases_lt (key x) (key y))

    pub put_kept : (x : A) (xs : List A) → Rises key xs → goes (id x) ≡ false → kept id goes (put key x xs) ≡ put key x (kept id goes xs)
    put_kept x xs h s = insert_kept x (without key (key x) xs) (rises_without key (key x) xs h) s ∙ ap (λ (l : List A). insert key x l) (without_kept (key x) xs)

    -- ---- a row that is so far

    pub amended_kept : (reaching : Progress → A → A) → ((q : Progress) (x : A) → id (reaching q x) ≡ id x) → (n : ℕ) (q : Progress) (xs : List A)
        → kept id goes (amended key reaching n q xs) ≡ amended key reaching n q (kept id goes xs)
    amended_kept reaching same n q [] = refl
    amended_kept reaching same n q (x ∷ xs) =
        let y : A = if key x == n then reaching q x else x in
        let e : id y ≡ id x = either (key x == n) in
        ⊎_elim
        (λ (t : goes (id x) ≡ true).
        kept_gone y (amended key reaching n q xs) (ap goes e ∙ t) ∙ amended_kept reaching same n q xs ∙ ap (λ (l : List A). amended key reaching n q l) (sym (kept_gone x xs t)))
        (λ (t : goes (id x) ≡ false).
        kept_here y (amended key reaching n q xs) (ap goes e ∙ t) ∙ ap (λ (l : List A). y ∷ l) (amended_kept reaching same n q xs)
        ∙ ap (λ (l : List A). amended key reaching n q l) (sym (kept_here x xs t)))
        (cases_Bool (goes (id x)))
      where
        either : (b : Bool) → id (if b then reaching q x else x) ≡ id x
        either true = same q x
        either false = refl
