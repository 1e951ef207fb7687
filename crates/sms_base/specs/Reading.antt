-- Reading octets from left to right: a reading answers what it took and the octets behind it, or the first fault.
-- The crates that read a format write their readings with these words, each at its own type of faults.
use Rattle.std.specs.Prelude.{◌≡◌, ℕ, ◌<◌, List, [], ◌∷◌, length, take, drop, Result, Ok, Err, Bool, nat_lt, if◌then◌else◌}
use Rattle.std.specs.List.{AllByRecursion}

-- read further with what was read, unless there was a fault
infixl 10 ◌>>=◌
abbrev pub ◌>>=◌ : {A B E : Type 0} → Result A E → (A → Result B E) → Result B E
(Ok x) >>= f = f x
(Err e) >>= f = Err e

-- the fault, unless the test holds
abbrev pub only_if : {E : Type 0} → Bool → E → Result (Unit {0}) E
only_if test fault = if test then Ok tt else Err fault

-- the first octet, or the fault where there is none
abbrev pub octet_in : {E : Type 0} → E → List ℕ → Result (ℕ × List ℕ) E
octet_in fault [] = Err fault
octet_in fault (octet ∷ rest) = Ok (octet, rest)

-- that many octets, or the fault where there are fewer
unfoldable pub run_in : {E : Type 0} → E → ℕ → List ℕ → Result (List ℕ × List ℕ) E
run_in fault count octets = if nat_lt (length octets) count then Err fault else Ok (take count octets, drop count octets)

-- nothing, or the fault where an octet is left
abbrev pub end_in : {E : Type 0} → E → List ℕ → Result (Unit {0}) E
end_in fault [] = Ok tt
end_in fault (octet ∷ rest) = Err fault

-- What a call returned, seen by view, is what the reading gives.
abbrev pub Gives : {X Y E : Type 0} → (X → Y) → Result X E → Result Y E → Type 0
Gives view (Ok x) read = read ≡ Ok (view x)
Gives view (Err e) read = read ≡ Err e

-- The same of a call that moved on: what it left is what the reading leaves.
abbrev pub Takes : {X Y E : Type 0} → (X → Y) → Result X E → List ℕ → Result (Y × List ℕ) E → Type 0
Takes view (Ok x) rest read = read ≡ Ok (view x, rest)
Takes view (Err e) rest read = read ≡ Err e

-- each number is an octet
abbrev pub AreOctets : List ℕ → Type 0
AreOctets octets = AllByRecursion (λ octet. octet < 256) octets
