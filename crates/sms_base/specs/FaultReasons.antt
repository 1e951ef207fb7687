-- What a fault says of the octets, by where values of a grammar are. IsOne says which octets are which value.
use Rattle.std.specs.Prelude.{◌≡◌, ◌≢◌, ℕ, List, [], ◌++◌}
use Rattle.sms_base.specs.Reading.{AreOctets}

-- octets may follow with which they are a value
abbrev pub HasContinuation : {X : Type 0} → (List ℕ → X → Type 0) → List ℕ → Type 0
HasContinuation {X} IsOne octets = (more : List ℕ) × AreOctets more × ((x : X) × IsOne (octets ++ more) x)

-- a proper front of them is a value
abbrev pub HasFront : {X : Type 0} → (List ℕ → X → Type 0) → List ℕ → Type 0
HasFront {X} IsOne octets = (front : List ℕ) × (rest : List ℕ) × (octets ≡ front ++ rest) × (rest ≢ []) × ((x : X) × IsOne front x)
