-- Bounds of the moments of both sides and of the row between them are bounds of all.
use Rattle.std.proofs.Common.{◌≡◌, ℕ, ◌≤◌, List, [], ◌∷◌, ◌++◌, sym, subst, arith}
use Rattle.std.specs.Prelude.{min, max}
use Rattle.sms_rows.specs.index.Bounds.{AreBetween, IsBounded}
use Rattle.sms_rows.specs.index.Shapes.{TreeOf}
use Rattle.sms_rows.specs.index.Trees.{forked}
use Rattle.sms_rows.specs.declared.index.tree.Fork.{Fork}

module _ {A : Type 0} (moment : A → ℕ) where
  pub wider : (a b c d : ℕ) (xs : List A) → c ≤ a → b ≤ d → AreBetween moment a b xs → AreBetween moment c d xs
  wider a b c d [] l g h = tt
  wider a b c d (x ∷ xs) l g h = ((omega (arith, h.0.0), omega (arith, h.0.1)), wider a b c d xs l g h.1)

  between_append : (a b : ℕ) (xs ys : List A) → AreBetween moment a b xs → AreBetween moment a b ys → AreBetween moment a b (xs ++ ys)
  between_append a b [] ys h k = k
  between_append a b (x ∷ xs) ys h k = (h.0, between_append a b xs ys h.1 k)

  pub bounded_fork : (left : TreeOf A) (row : A) (right : TreeOf A) → IsBounded moment left → IsBounded moment right → IsBounded moment (forked moment left row right)
  bounded_fork left row right h k =
      let a : ℕ = min (moment row) (min left.earliest right.earliest) in
      let b : ℕ = max (moment row) (max left.latest right.latest) in
      between_append a b left.rows (row ∷ right.rows)
      (wider left.earliest left.latest a b left.rows (omega arith) (omega arith) h)
      ((omega arith, omega arith), wider right.earliest right.latest a b right.rows (omega arith) (omega arith) k)

  -- the same of a fork, by its fields
  pub fork_bounds : (left : TreeOf A) (row : A) (right : TreeOf A) (height earliest latest : ℕ) (f : Fork A) → f ≡ record { left = left; row = row; right = right; height = height; earliest = earliest; latest = latest }
      → earliest ≡ min (moment row) (min left.earliest right.earliest) → latest ≡ max (moment row) (max left.latest right.latest) → IsBounded moment left → IsBounded moment right
      → AreBetween moment f.earliest f.latest (f.left.rows ++ f.row ∷ f.right.rows)
  fork_bounds left row right height earliest latest f is low high h k =
      let all : AreBetween moment earliest latest (left.rows ++ row ∷ right.rows) =
      subst (λ (n : ℕ). AreBetween moment earliest n (left.rows ++ row ∷ right.rows)) (sym high)
      (subst (λ (n : ℕ). AreBetween moment n (max (moment row) (max left.latest right.latest)) (left.rows ++ row ∷ right.rows)) (sym low) (bounded_fork left row right h k)) in
      subst (λ (g : Fork A). AreBetween moment g.earliest g.latest (g.left.rows ++ g.row ∷ g.right.rows)) (sym is) all
