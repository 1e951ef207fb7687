-- Items of which none is there twice, visited from the front.
use Rattle.std.specs.Prelude.{ℕ, ◌++◌, nat_eq, List, [], ◌∷◌, Bool, true, false, if◌then◌else◌}
use Rattle.std.specs.List.{list_any}

-- none is the same as another, nor as one of those that were seen
abbrev pub differ_by : {K : Type 0} → (K → K → Bool) → List K → List K → Bool
differ_by same seen [] = true
differ_by same seen (k ∷ ks) = if list_any (same k) seen then false else differ_by same (seen ++ k ∷ []) ks

abbrev pub differ : List ℕ → Bool
differ ns = differ_by nat_eq [] ns
