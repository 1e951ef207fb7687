-- The first so many of a list, or all of a shorter one.
use Rattle.std.proofs.Common.{◌≡◌, ℕ, List, length, take, min, sym}
use Rattle.std.proofs.lemmas.List.{length-take, take_min}

pub front : (count : ℕ) (list : List ℕ) → take (min count (length list)) list ≡ take count list
front count list = take_min count list

pub front_length : (count : ℕ) (list : List ℕ) → min count (length list) ≡ length (take count list)
front_length count list = sym (length-take count list)
