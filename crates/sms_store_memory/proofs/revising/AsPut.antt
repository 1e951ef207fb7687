-- A row that is amended is taken out and put in again.
use Rattle.std.proofs.Common.{◌≡◌, ℕ, List, Option, Some, None, sym, ap, ap₂, subst, ◌∙◌, ⊎_elim}
use Rattle.std.specs.Option.{option_map}
use Rattle.std.proofs.lemmas.Bool.{cases_eq}
use Rattle.sms_rows.specs.table.Table.{RowsInMemory, Rises, row_at, put, without}
use Rattle.sms_rows.proofs.table.Tables.{row_at_put, row_at_put_other, row_at_without, row_at_without_other, rises_put, rises_without, found_key}
use Rattle.sms_centre_rows.specs.declared.waiting.progress.Progress.{Progress}
use Rattle.sms_centre_rows.specs.waiting.Revisions.{amended}
use Rattle.sms_centre_rows.proofs.waiting.Amending.{row_at_amended, row_at_amended_other, rises_amended}
use Rattle.sms_centre_rows.proofs.waiting.Alike.{rises_alike}

module _ {A : Type 0} (key : A → ℕ) (reaching : Progress → A → A) (keeps : (q : Progress) (x : A) → key (reaching q x) ≡ key x) (n : ℕ) (q : Progress) (xs : List A) (rises : Rises key xs) where
  -- where there is none, nothing changes
  pub amended_none : row_at key n xs ≡ None → without key n xs ≡ amended key reaching n q xs
  amended_none none = rises_alike key _ _ (rises_without key n xs rises) (rises_amended key reaching keeps n q xs rises) same
    where
      same : (k : ℕ) → row_at key k (without key n xs) ≡ row_at key k (amended key reaching n q xs)
      same k = ⊎_elim
          (λ (e : n ≡ k). subst (λ m. row_at key m (without key n xs) ≡ row_at key m (amended key reaching n q xs)) e (row_at_without key n xs ∙ sym (row_at_amended key reaching keeps n q xs ∙ ap (option_map (reaching q)) none)))
          (λ (ne : n ≡ k → ⊥). row_at_without_other key n k xs ne ∙ sym (row_at_amended_other key reaching keeps k n q xs ne))
          (cases_eq n k)

  pub amended_some : (row : A) → row_at key n xs ≡ Some row → put key (reaching q row) (without key n xs) ≡ amended key reaching n q xs
  amended_some row found = rises_alike key _ _ (rises_put key (reaching q row) _ (rises_without key n xs rises)) (rises_amended key reaching keeps n q xs rises) same
    where
      at : key (reaching q row) ≡ n
      at = keeps q row ∙ found_key key n row xs found

      same : (k : ℕ) → row_at key k (put key (reaching q row) (without key n xs)) ≡ row_at key k (amended key reaching n q xs)
      same k = ⊎_elim
          (λ (e : n ≡ k). subst (λ m. row_at key m (put key (reaching q row) (without key n xs)) ≡ row_at key m (amended key reaching n q xs)) e
          (subst (λ m. row_at key m (put key (reaching q row) (without key n xs)) ≡ Some (reaching q row)) at (row_at_put key (reaching q row) _) ∙ sym (row_at_amended key reaching keeps n q xs ∙ ap (option_map (reaching q)) found)))
          (λ (ne : n ≡ k → ⊥). row_at_put_other key k (reaching q row) _ (λ e. ne (sym at ∙ e)) ∙ row_at_without_other key n k xs ne ∙ sym (row_at_amended_other key reaching keeps k n q xs ne))
          (cases_eq n k)

module _ {A : Type 0} (key : A → ℕ) (reaching : Progress → A → A) (keeps : (q : Progress) (x : A) → key (reaching q x) ≡ key x) (n : ℕ) (q : Progress) (t gone : RowsInMemory A) (removed : gone ≡ record t { rows = without key n t.rows }) (rises : Rises key t.rows) where
  pub put_back : (after : RowsInMemory A) (row r : A) → row_at key n t.rows ≡ Some row → r ≡ reaching q row → after ≡ record gone { rows = put key r gone.rows } → after ≡ record t { rows = amended key reaching n q t.rows }
  put_back after row r found same made =
      let rows : after.rows ≡ amended key reaching n q t.rows = ap (λ (k : RowsInMemory A). k.rows) made ∙ ap₂ (λ x l. put key x l) same (ap (λ (k : RowsInMemory A). k.rows) removed) ∙ amended_some key reaching keeps n q t.rows rises row found in
      let capacity : after.capacity ≡ t.capacity = ap (λ (k : RowsInMemory A). k.capacity) made ∙ ap (λ (k : RowsInMemory A). k.capacity) removed in
      λ i. record { rows = rows i; capacity = capacity i }

  pub left_alone : row_at key n t.rows ≡ None → gone ≡ record t { rows = amended key reaching n q t.rows }
  left_alone none =
      let rows : gone.rows ≡ amended key reaching n q t.rows = ap (λ (k : RowsInMemory A). k.rows) removed ∙ amended_none key reaching keeps n q t.rows rises none in
      let capacity : gone.capacity ≡ t.capacity = ap (λ (k : RowsInMemory A). k.capacity) removed in
      λ i. record { rows = rows i; capacity = capacity i }
