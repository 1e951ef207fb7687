-- Two pieces that are put behind each other are one piece.
use Rattle.std.proofs.Common.{◌≡◌, ℕ, List, ◌++◌, Result, Ok, Err, OnOk, ap, ◌∙◌, append_assoc}

pub two_pieces : {E : Type 0} (r : Result (Unit {0}) E) (out mid end xs ys first second : List ℕ) → xs ≡ first → ys ≡ second
    → mid ≡ out ++ xs → OnOk r (end ≡ mid ++ ys) → OnOk r (end ≡ out ++ (first ++ second))
two_pieces (Ok done) out mid end xs ys first second a b e f =
    f ∙ ap (λ m. m ++ ys) e ∙ append_assoc out xs ys ∙ ap (λ x. out ++ (x ++ ys)) a ∙ ap (λ y. out ++ (first ++ y)) b
two_pieces (Err error) out mid end xs ys first second a b e f = tt
