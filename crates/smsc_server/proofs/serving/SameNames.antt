-- Each list of names begins with the names of itself, as octets are compared.
use Rattle.std.proofs.Common.{◌≡◌, ℕ, true, List, [], ◌∷◌, refl}
use Rattle.std.specs.Prelude.{bytes_eq}
use Rattle.std.proofs.lemmas.Bool.{and_from}
use Rattle.std.proofs.lemmas.Slice.Eq.{bytes_eq-Decides}
use Rattle.smsc_server.specs.serving.AccountNames.{begin_with}

pub same_as_itself : (xs : List (List ℕ)) → begin_with xs xs ≡ true
same_as_itself [] = refl
same_as_itself (x ∷ xs) = and_from (bytes_eq x x) (begin_with xs xs) ((bytes_eq-Decides x x).1 refl) (same_as_itself xs)
