-- How the rates of all accounts are changed one after the other.
use Rattle.std.proofs.Common.{◌≡◌, ℕ, zero, suc, ◌+◌, ◌<◌, List, [], ◌∷◌, length, take, Option, None, Some, refl, sym, ap, subst, ◌∙◌, arith}
use Rattle.std.specs.Prelude.{slice_get}
use Rattle.smsc_server.specs.declared.serving.allowances.Allowance.{Allowance}
use Rattle.smsc_server.specs.declared.serving.rates.Rate.{Rate}
use Rattle.smsc_server.specs.serving.Rates.{limited, limited_all, limited_at}

-- where nothing is said, each keeps what it has
pub none_limited : (rates : List (Option Rate)) → limited_all [] rates ≡ rates
none_limited [] = refl
none_limited (rate ∷ rates) = refl

none_there : (allowance : Option Allowance) (place : ℕ) → limited_at allowance place [] ≡ []
none_there None place = refl
none_there (Some allowance) place = refl

one_behind : (allowance : Option Allowance) (place : ℕ) (rate : Option Rate) (rates : List (Option Rate)) → limited_at allowance (suc place) (rate ∷ rates) ≡ rate ∷ limited_at allowance place rates
one_behind None place rate rates = refl
one_behind (Some allowance) place rate rates = refl

one_more : (place : ℕ) (allowed : List Allowance) (rates : List (Option Rate)) → place < length allowed
    → limited_at (slice_get allowed place) place (limited_all (take place allowed) rates) ≡ limited_all (take (suc place) allowed) rates
one_more place [] rates h = absurd (omega (arith, h))
one_more zero (allowance ∷ allowed) [] h = refl
one_more zero (allowance ∷ allowed) (rate ∷ rates) h = ap (λ (rest : List (Option Rate)). limited allowance.rate rate ∷ rest) (sym (none_limited rates))
one_more (suc place) (allowance ∷ allowed) [] h = none_there (slice_get allowed place) (suc place)
one_more (suc place) (allowance ∷ allowed) (rate ∷ rates) h =
    one_behind (slice_get allowed place) place (limited allowance.rate rate) (limited_all (take place allowed) rates)
    ∙ ap (λ (rest : List (Option Rate)). limited allowance.rate rate ∷ rest) (one_more place allowed rates (omega (arith, h)))

-- one account more
pub one_limited : (place : ℕ) (allowed : List Allowance) (rates : List (Option Rate)) → place < length allowed
    → limited_at (slice_get allowed place) place (limited_all (take place allowed) rates) ≡ limited_all (take (place + 1) allowed) rates
one_limited place allowed rates h =
    let next : suc place ≡ place + 1 = omega arith in
    one_more place allowed rates h ∙ ap (λ (n : ℕ). limited_all (take n allowed) rates) next
