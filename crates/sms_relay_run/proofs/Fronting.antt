-- The front of an input, read piece by piece into a buffer.
use Rattle.std.proofs.Common.{◌≡◌, ℕ, ◌+◌, ◌≤◌, List, ◌++◌, length, take, Option, Some, None, sym, ap, subst, ◌∙◌, append_assoc}
use Rattle.std.proofs.lemmas.List.{take-append-le, length-take-le}
use Rattle.std.proofs.Math.Seq.{take-append-add}
use Rattle.std.specs.Io.KnownBytes.{Consumes}

pub consumes_more : (a b c : Option (List ℕ)) (xs ys : List ℕ) → Consumes a b xs → Consumes b c ys → Consumes a c (xs ++ ys)
consumes_more None b c xs ys p q = tt
consumes_more (Some a) None c xs ys p q = absurd p
consumes_more (Some a) (Some b) None xs ys p q = absurd q
consumes_more (Some a) (Some b) (Some c) xs ys p q = p ∙ ap (λ (l : List ℕ). xs ++ l) q ∙ sym (append_assoc xs ys c)

-- with a piece put behind what was filled
pub filled_more : (n count : ℕ) (xs ys post : List ℕ) → n ≤ length xs → count ≤ length ys → take (n + count) (take n xs ++ (ys ++ post)) ≡ take n xs ++ take count ys
filled_more n count xs ys post le few =
    let len : length (take n xs) ≡ n = length-take-le n xs le in
    subst (λ (k : ℕ). take (k + count) (take n xs ++ (ys ++ post)) ≡ take n xs ++ take count (ys ++ post)) len (take-append-add (take n xs) (ys ++ post) count)
    ∙ ap (λ (l : List ℕ). take n xs ++ l) (take-append-le count ys post few)
