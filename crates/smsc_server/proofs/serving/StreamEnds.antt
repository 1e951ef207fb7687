-- A stream that has nothing left to give.
use Rattle.std.proofs.Common.{◌≡◌, ℕ, List, [], Option, Some, None, refl}
use Rattle.std.specs.Io.KnownBytes.{IsAtEnd}
use Rattle.std.specs.Option.{ForSome}

pub end_so : (left : Option (List ℕ)) → ForSome left (λ (rest : List ℕ). rest ≡ []) → IsAtEnd left
end_so None h = tt
end_so (Some rest) h = h rest refl

pub so_end : (left : Option (List ℕ)) → IsAtEnd left → ForSome left (λ (rest : List ℕ). rest ≡ [])
so_end None h = λ rest e. let never : None ≡ Some rest = e in absurd cc
so_end (Some all) h = λ rest e. let is : Some all ≡ Some rest = e in cc
