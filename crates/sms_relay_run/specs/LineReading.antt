-- What reading the one line of an input answers.
use Rattle.std.specs.Prelude.{◌≡◌, ℕ, List, length, take, Result, Ok, Err}

-- the octets are in the front of the room, or the number of the bad line is given
abbrev pub ReadsLine : Result (List ℕ) ℕ → Result ℕ ℕ → List ℕ → Type 0
ReadsLine (Ok octets) result room = (result ≡ Ok (length octets)) × (take (length octets) room ≡ octets)
ReadsLine (Err line) result room = result ≡ Err line
