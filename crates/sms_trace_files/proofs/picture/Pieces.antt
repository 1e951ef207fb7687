-- Pieces put one behind the other.
use Rattle.std.proofs.Common.{◌≡◌, ◌∙◌, ℕ, List, ◌++◌, ap, append_assoc}

-- three pieces, of which the second is known by another name
pub three_pieces : (out one two new a b c y : List ℕ) → one ≡ (out ++ a) → two ≡ (one ++ b) → new ≡ (two ++ c) → b ≡ y → new ≡ (out ++ (a ++ (y ++ c)))
three_pieces out one two new a b c y first second third named =
    third
    ∙ (ap (λ (l : List ℕ). l ++ c) second
    ∙ (ap (λ (l : List ℕ). (l ++ b) ++ c) first
    ∙ (append_assoc (out ++ a) b c ∙ (append_assoc out a (b ++ c) ∙ ap (λ (l : List ℕ). out ++ (a ++ (l ++ c))) named))))

-- four pieces
pub four_pieces : (out one two three new a b c d : List ℕ) → one ≡ (out ++ a) → two ≡ (one ++ b) → three ≡ (two ++ c) → new ≡ (three ++ d) → new ≡ (out ++ (a ++ (b ++ (c ++ d))))
four_pieces out one two three new a b c d first second third fourth =
    fourth
    ∙ (ap (λ (l : List ℕ). l ++ d) third
    ∙ (ap (λ (l : List ℕ). (l ++ c) ++ d) second
    ∙ (ap (λ (l : List ℕ). ((l ++ b) ++ c) ++ d) first
    ∙ (append_assoc ((out ++ a) ++ b) c d ∙ (append_assoc (out ++ a) b (c ++ d) ∙ append_assoc out a (b ++ (c ++ d)))))))

-- five pieces
pub five_pieces : (out one two three four new a b c d e : List ℕ) → one ≡ (out ++ a) → two ≡ (one ++ b) → three ≡ (two ++ c) → four ≡ (three ++ d) → new ≡ (four ++ e) → new ≡ (out ++ (a ++ (b ++ (c ++ (d ++ e)))))
five_pieces out one two three four new a b c d e first second third fourth fifth =
    four_pieces out one two three new a b c (d ++ e) first second third (fifth ∙ (ap (λ (l : List ℕ). l ++ e) fourth ∙ append_assoc three d e))
