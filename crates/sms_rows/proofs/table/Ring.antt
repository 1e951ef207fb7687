-- A row that is taken out of a ring.
use Rattle.std.proofs.Common.{◌≡◌, ◌<◌, ℕ, List, [], ◌∷◌, length, get_or, sym, ◌∙◌, subst, Option, Some}
use Rattle.std.specs.Prelude.{OnSome}
use Rattle.std.specs.List.{remove}
use Rattle.sms_rows.specs.table.Table.{IsAt, row_at}
use Rattle.sms_rows.proofs.table.Places.{at_inside, found_at}

module _ {A : Type 0} (key : A → ℕ) where
  -- what is taken is the row of the key
  pub taken_at : (n place : ℕ) (xs : List A) (taken : Option A) → ((d : A) → place < length xs → taken ≡ Some (get_or xs place d)) → IsAt key n place xs
      → taken ≡ row_at key n xs
  taken_at n place [] taken gives h = absurd h
  taken_at n place (x ∷ xs) taken gives h = gives x (at_inside key n place (x ∷ xs) h) ∙ sym (found_at key n place (x ∷ xs) x h)

  -- the other rows are left
  pub left_at : (n place : ℕ) (xs ys : List A) (taken : Option A) → ((d : A) → place < length xs → taken ≡ Some (get_or xs place d)) → IsAt key n place xs
      → OnSome taken (ys ≡ remove xs place) → ys ≡ remove xs place
  left_at n place [] ys taken gives h left = absurd h
  left_at n place (x ∷ xs) ys taken gives h left =
      subst (λ (o : Option A). OnSome o (ys ≡ remove (x ∷ xs) place)) (gives x (at_inside key n place (x ∷ xs) h)) left
