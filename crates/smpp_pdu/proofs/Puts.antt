-- Octets that are written one after the other.
use Rattle.std.proofs.Common.{◌≡◌, ℕ, List, ◌++◌, ap, ◌∙◌, append_assoc}

pub before : (o0 o1 o2 a b : List ℕ) → o1 ≡ o0 ++ a → o2 ≡ o1 ++ b → o2 ≡ o0 ++ (a ++ b)
before o0 o1 o2 a b e f = f ∙ ap (λ (l : List ℕ). l ++ b) e ∙ append_assoc o0 a b
