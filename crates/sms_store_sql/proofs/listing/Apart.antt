-- Trees that stand apart, by a look at each.
use Rattle.std.proofs.Common.{◌≡◌, ◌≢◌, ◌||◌, ◌==◌, ℕ, Bool, false, true, List, [], ◌∷◌, refl, arith}
use Rattle.std.proofs.lemmas.Bool.Decides.{nat_tests}
use Rattle.std.specs.List.{AllByRecursion, list_any}
use Rattle.sqlite.specs.Schema.{Schema}
use Rattle.sqlite_rules.specs.Edit.{IsNoIndex}
use Rattle.sqlite_schema.specs.declared.schema.Index.{Index}

-- an index is in the tree, or it is that other one
abbrev pub meets : Schema → ℕ → ℕ → Bool
meets schema other tree = (tree == other) || list_any (λ (i : Index). i.tree == tree) schema.indexes

neither : (a b : Bool) → (a || b) ≡ false → (a ≡ false) × (b ≡ false)
neither false false none = (refl, refl)
neither false true none = absurd cc
neither true b none = absurd cc

differ : (a b : ℕ) → (a == b) ≡ false → a ≢ b
differ a b other same = grind (arith, nat_tests, other, same)

of_none : (tree : ℕ) (is : List Index) → list_any (λ (i : Index). i.tree == tree) is ≡ false → AllByRecursion (λ (i : Index). i.tree ≢ tree) is
of_none tree [] none = tt
of_none tree (i ∷ is) none =
    let both = neither (i.tree == tree) (list_any (λ (j : Index). j.tree == tree) is) none in
    (differ i.tree tree both.0, of_none tree is both.1)

module _ (schema : Schema) (other tree : ℕ) (none : meets schema other tree ≡ false) where
  both : ((tree == other) ≡ false) × (list_any (λ (i : Index). i.tree == tree) schema.indexes ≡ false)
  both = neither (tree == other) (list_any (λ (i : Index). i.tree == tree) schema.indexes) none

  pub is_other : tree ≢ other
  is_other = differ tree other both.0

  pub is_no_index : IsNoIndex schema tree
  is_no_index = of_none tree schema.indexes both.1
