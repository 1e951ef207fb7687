-- A number that is not zero.
use Rattle.std.specs.Prelude.{◌≡◌, ℕ, zero, suc, ⊤}
use Rattle.std.proofs.Common.{subst}

abbrev pub IsPositive : ℕ → Type 0
IsPositive zero = ⊥
IsPositive (suc more) = ⊤

pub some_is_not_none : (n : ℕ) → suc n ≡ 0 → ⊥
some_is_not_none n none = subst IsPositive none tt
