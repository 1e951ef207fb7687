-- Where texts stop there are as many accounts as texts before.
use Rattle.std.proofs.Common.{◌≡◌, ℕ, zero, suc, ◌+◌, List, [], ◌∷◌, length, ap, subst, ◌∙◌, arith, length-append}
use Rattle.smsc_cli.specs.declared.words.account.AccountWords.{AccountWords}
use Rattle.smsc_cli.specs.words.Accounts.{StopsAt}

stops_behind : (texts : List (List ℕ)) (place : ℕ) (old last : List AccountWords) → StopsAt place texts old last → length last ≡ place + length old
stops_behind [] place old last s = absurd s
stops_behind (text ∷ texts) zero old last s = let same : length last ≡ length old = ap length s.1 in omega (arith, same)
stops_behind (text ∷ texts) (suc place) old last s =
    let added : length s.0 ≡ length old + 1 = ap length s.1.added ∙ length-append old (s.1.account ∷ []) in
    let rest = stops_behind texts place s.0 last s.2 in
    omega (arith, added, rest)

pub number_of_bad : (texts : List (List ℕ)) (old last : List AccountWords) (number : ℕ) → old ≡ [] → number ≡ length last + 1
    → ((place : ℕ) × StopsAt place texts old last) → (place : ℕ) × (number ≡ place + 1) × ((new : List AccountWords) × StopsAt place texts [] new)
number_of_bad texts old last number none is s =
    let behind = stops_behind texts s.0 old last s.1 in
    let empty : length old ≡ 0 = ap length none in
    (s.0, omega (arith, is, behind, empty), (last, subst (λ (l : List AccountWords). StopsAt s.0 texts l last) none s.1))
