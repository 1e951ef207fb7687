-- How long a unit is.
use Rattle.std.proofs.Common.{◌≡◌, ℕ, suc, ◌+◌, List, ◌∷◌, ◌++◌, length, length-append, refl, arith}
use Rattle.sms_relay.specs.RelayGrammar.{data_down}

pub down_long : (r : ℕ) (centre unit : List ℕ) → length (data_down r centre unit) ≡ 5 + length centre + length unit
down_long r centre unit =
    let q : length (data_down r centre unit) ≡ suc (suc (suc (length (centre ++ (0 ∷ length unit ∷ unit))))) = refl in
    let a : length (centre ++ (0 ∷ length unit ∷ unit)) ≡ length centre + length (0 ∷ length unit ∷ unit) = length-append centre (0 ∷ length unit ∷ unit) in
    let e : length (0 ∷ length unit ∷ unit) ≡ suc (suc (length unit)) = refl in
    omega (arith, q, a, e)
