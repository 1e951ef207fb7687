-- Trees: a row at each fork, all that precede it on its left, all others on its right.
use Rattle.std.specs.Prelude.{ℕ, min, max, [], ◌∷◌, ◌++◌, Option, Some, None}
use Rattle.std.specs.declared.alloc.Global.{Global}
use Rattle.std.specs.declared.sync.Arc.{Arc}
use Rattle.sms_rows.specs.index.Shapes.{TreeOf}
use Rattle.sms_rows.specs.declared.index.tree.Fork.{Fork}

abbrev pub empty : {A : Type 0} → TreeOf A
empty = record { rows = []; earliest = 0xffff_ffff_ffff_ffff; latest = 0 }

-- the tree of the rows of both sides and the one between them
abbrev pub forked : {A : Type 0} → (A → ℕ) → TreeOf A → A → TreeOf A → TreeOf A
forked moment left row right = record {
  rows = left.rows ++ row ∷ right.rows;
  earliest = min (moment row) (min left.earliest right.earliest);
  latest = max (moment row) (max left.latest right.latest);
}

abbrev pub tree_of : {A : Type 0} → Option (Arc (Fork A) Global) → TreeOf A
tree_of None = empty
tree_of (Some fork) =
    record { rows = fork.value.left.rows ++ fork.value.row ∷ fork.value.right.rows; earliest = fork.value.earliest; latest = fork.value.latest }
