-- Rows that were put one after the other: one more, and what is found.
use Rattle.std.proofs.Common.{◌≡◌, ℕ, zero, suc, ◌<◌, List, [], ◌∷◌, ◌++◌, length, drop, get_or, Option, Some, None, cond, refl, sym, ◌∙◌, ap, subst, arith, ⊎_elim, eq-eqb}
use Rattle.std.specs.Prelude.{◌==◌}
use Rattle.std.specs.Option.{option_or}
use Rattle.std.proofs.lemmas.Bool.{cases_eq, cond-true, cond-false, ne_eqb}
use Rattle.sms_rows.specs.table.Table.{put, row_at}
use Rattle.sms_rows.proofs.table.Tables.{row_at_put, row_at_put_other}
use Rattle.sms_centre_queue.specs.queue.Given.{all_put, newest}

-- one more
pub all_put_push : {A : Type 0} (key : A → ℕ) (xs : List A) (x : A) (rows : List A) → all_put key (xs ++ x ∷ []) rows ≡ put key x (all_put key xs rows)
all_put_push key [] x rows = refl
all_put_push key (y ∷ ys) x rows = all_put_push key ys x (put key y rows)

module _ {A : Type 0} (key : A → ℕ) where
  or_first : (a b c : Option A) → option_or a (option_or b c) ≡ option_or (option_or a b) c
  or_first (Some x) b c = refl
  or_first None b c = refl

  one_put : (n : ℕ) (x : A) (rows : List A) → row_at key n (put key x rows) ≡ option_or (cond (key x == n) (Some x) None) (row_at key n rows)
  one_put n x rows = ⊎_elim
      (λ (e : key x ≡ n).
      subst (λ (m : ℕ). row_at key m (put key x rows) ≡ Some x) e (row_at_put key x rows)
      ∙ ap (λ (o : Option A). option_or o (row_at key n rows)) (sym (cond-true (key x == n) (Some x) None (eq-eqb (key x) n e))))
      (λ (e : key x ≡ n → ⊥).
      row_at_put_other key n x rows e
      ∙ ap (λ (o : Option A). option_or o (row_at key n rows)) (sym (cond-false (key x == n) (Some x) None (ne_eqb (key x) n e))))
      (cases_eq (key x) n)

  -- the row of a key: the one that was put last, or else the row that stood there
  pub row_at_all_put : (n : ℕ) (xs rows : List A) → row_at key n (all_put key xs rows) ≡ option_or (newest key n xs) (row_at key n rows)
  row_at_all_put n [] rows = refl
  row_at_all_put n (x ∷ xs) rows =
      row_at_all_put n xs (put key x rows)
      ∙ ap (λ (o : Option A). option_or (newest key n xs) o) (one_put n x rows)
      ∙ or_first (newest key n xs) (cond (key x == n) (Some x) None) (row_at key n rows)

  -- a row behind which none of its key stands
  pub newest_at : (n j : ℕ) (xs : List A) (d : A) → j < length xs → newest key n (drop (suc j) xs) ≡ None → key (get_or xs j d) ≡ n → newest key n xs ≡ Some (get_or xs j d)
  newest_at n j [] d l none e = absurd (omega arith)
  newest_at n zero (x ∷ xs) d l none e =
      ap (λ (o : Option A). option_or o (cond (key x == n) (Some x) None)) none
      ∙ cond-true (key x == n) (Some x) None (eq-eqb (key x) n e)
  newest_at n (suc j) (x ∷ xs) d l none e =
      ap (λ (o : Option A). option_or o (cond (key x == n) (Some x) None)) (newest_at n j xs d (omega arith) none e)
