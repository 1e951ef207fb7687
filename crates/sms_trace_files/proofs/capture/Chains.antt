-- Lists put one behind the other.
use Rattle.std.proofs.Common.{◌≡◌, ◌∙◌, ℕ, List, ◌++◌, ap, append_assoc}

-- one behind another, and two behind it
pub behind : (out new first a b c x y z : List ℕ) → new ≡ ((first ++ b) ++ c) → first ≡ (out ++ a) → a ≡ x → b ≡ y → c ≡ z → new ≡ (out ++ ((x ++ y) ++ z))
behind out new first a b c x y z put before ax by cz =
    put
    ∙ (ap (λ (l : List ℕ). ((l ++ b) ++ c)) before
    ∙ (ap (λ (l : List ℕ). (l ++ c)) (append_assoc out a b)
    ∙ (append_assoc out (a ++ b) c
    ∙ (ap (λ (l : List ℕ). (out ++ ((l ++ b) ++ c))) ax
    ∙ (ap (λ (l : List ℕ). (out ++ ((x ++ l) ++ c))) by
    ∙ ap (λ (l : List ℕ). (out ++ ((x ++ y) ++ l))) cz)))))

-- two behind another
pub both : (out new b c y z : List ℕ) → new ≡ ((out ++ b) ++ c) → b ≡ y → c ≡ z → new ≡ (out ++ (y ++ z))
both out new b c y z put by cz =
    put
    ∙ (append_assoc out b c
    ∙ (ap (λ (l : List ℕ). (out ++ (l ++ c))) by
    ∙ ap (λ (l : List ℕ). (out ++ (y ++ l))) cz))

-- one behind another, one behind it, and one behind both
pub three : (out new second first a b c x z : List ℕ) → new ≡ (second ++ c) → second ≡ (first ++ b) → first ≡ (out ++ a) → a ≡ x → c ≡ z → new ≡ (out ++ ((x ++ b) ++ z))
three out new second first a b c x z put next before ax cz =
    put
    ∙ (ap (λ (l : List ℕ). (l ++ c)) next
    ∙ (ap (λ (l : List ℕ). ((l ++ b) ++ c)) before
    ∙ (ap (λ (l : List ℕ). (l ++ c)) (append_assoc out a b)
    ∙ (append_assoc out (a ++ b) c
    ∙ (ap (λ (l : List ℕ). (out ++ ((l ++ b) ++ c))) ax
    ∙ ap (λ (l : List ℕ). (out ++ ((x ++ b) ++ l))) cz)))))
