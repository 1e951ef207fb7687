-- A row whose key is greater than all others goes behind them.
use Rattle.std.proofs.Common.{◌≡◌, ℕ, ◌<◌, List, [], ◌∷◌, ◌++◌, refl, ◌∙◌, ap, inl, inr, arith}
use Rattle.sms_base.specs.Among.{Among}
use Rattle.sms_rows.specs.table.Table.{insert, put, without}
use Rattle.sms_rows.proofs.table.Tables.{insert_behind, without_behind}

module _ {A : Type 0} (key : A → ℕ) where
  stay : (x : A) (xs : List A) → ((other : A) → Among other xs → key other < key x) → without key (key x) xs ≡ xs
  stay x [] f = refl
  stay x (y ∷ ys) f =
      without_behind key (key x) y ys (λ (e : key y ≡ key x). let l = f y (inl refl) in absurd (omega (arith, e, l))) ∙ ap (λ (l : List A). y ∷ l) (stay x ys (λ z a. f z (inr a)))

  behind : (x : A) (xs : List A) → ((other : A) → Among other xs → key other < key x) → insert key x xs ≡ xs ++ x ∷ []
  behind x [] f = refl
  behind x (y ∷ ys) f = insert_behind key x y ys (let l = f y (inl refl) in omega (arith, l)) ∙ ap (λ (l : List A). y ∷ l) (behind x ys (λ z a. f z (inr a)))

  pub put_last : (x : A) (xs : List A) → ((other : A) → Among other xs → key other < key x) → put key x xs ≡ xs ++ x ∷ []
  put_last x xs f = ap (λ (l : List A). insert key x l) (stay x xs f) ∙ behind x xs f
