-- The last rows first.
use Rattle.std.proofs.Common.{◌≡◌, ℕ, ◌+◌, ◌-◌, ◌<◌, List, ◌∷◌, length, drop, get_or, sym, ◌∙◌, ap, arith}
use Rattle.std.proofs.lemmas.List.{at_drop_more}

-- the row before those that were looked at comes next
pub next_back : {A : Type 0} (xs : List A) (i : ℕ) (x : A) → i < length xs → x ≡ get_or xs (length xs - 1 - i) x → drop (length xs - (i + 1)) xs ≡ x ∷ drop (length xs - i) xs
next_back {A} xs i x l is =
    let n : ℕ = length xs - 1 - i in
    let one : length xs - (i + 1) ≡ n = omega (arith, l) in
    let more : length xs - i ≡ n + 1 = omega (arith, l) in
    ap (λ (k : ℕ). drop k xs) one ∙ at_drop_more (λ (ys : List A). ys) xs n x (omega (arith, l))
    ∙ ap (λ (k : ℕ). get_or xs n x ∷ drop k xs) (sym more) ∙ ap (λ (y : A). y ∷ drop (length xs - i) xs) (sym is)
