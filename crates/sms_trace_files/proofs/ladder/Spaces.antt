-- Spaces, one after another.
use Rattle.std.proofs.Common.{◌≡◌, ℕ, ◌+◌, List, [], ◌∷◌, ◌++◌, replicate}
use Rattle.std.proofs.lemmas.List.{replicate-append-replicate}

pub one_more_space : (space count : ℕ) → replicate count space ++ space ∷ [] ≡ replicate (count + 1) space
one_more_space space count = replicate-append-replicate count 1 space
