-- What a tree is seen as.
use Rattle.std.specs.Prelude.{ℕ, List}

-- its rows in order, and two moments between which all of theirs lie
pub record TreeOf (A : Type 0) : Type 0 where
  pub rows : List A
  pub earliest : ℕ
  pub latest : ℕ
