-- A stream of PDUs: pieces, each as long as its command_length, and a rest (SMPP v3.4 3.2).
use Rattle.std.specs.Prelude.{◌≡◌, ℕ, ◌+◌, ◌*◌, ◌≤◌, List, [], ◌∷◌, ◌++◌, length, slice_index, Bool, ◌&&◌, nat_lt, nat_le, if◌then◌else◌}
use Rattle.std.specs.List.{AllByRecursion}
use Rattle.smpp_pdu.specs.declared.header.Header.{Header}
use Rattle.smpp_session.specs.declared.front.Front.{Front}
use Rattle.smpp_session.specs.declared.front.Front.TheVariants.{Waiting, Whole, BadLength, Dropped}
use Rattle.smpp_session.specs.declared.conversation.SessionState.{SessionState}
use Rattle.smpp_session.specs.declared.conversation.SessionState.TheVariants.{Opened, BoundTx, BoundRx, BoundTrx, Unbinding, Finishing, Broken, Closed}

-- an integer of four octets, the most significant first, at a place
abbrev pub number_at : ℕ → List ℕ → ℕ
number_at place octets =
    16777216 * slice_index octets place + 65536 * slice_index octets (place + 1) + 256 * slice_index octets (place + 2) + slice_index octets (place + 3)

-- the header that the octets begin with
abbrev pub header_at : List ℕ → Header
header_at octets = record {
  command_length = number_at 0 octets;
  command_id = number_at 4 octets;
  command_status = number_at 8 octets;
  sequence_number = number_at 12 octets;
}

-- ---- pieces and rest

-- A piece has 16 to 65,536 octets, as its first four say.
pub record IsPiece (octets : List ℕ) : Type 0 where
  pub header : 16 ≤ length octets
  pub short : length octets ≤ 65536
  pub stated : number_at 0 octets ≡ length octets

abbrev pub BeginsWithPiece : List ℕ → Type 0
BeginsWithPiece octets = (piece rest : List ℕ) × IsPiece piece × (octets ≡ piece ++ rest)

abbrev pub joined : List (List ℕ) → List ℕ
joined [] = []
joined (piece ∷ pieces) = piece ++ joined pieces

-- A stream is its pieces and a rest that begins with no piece.
pub record IsStream (octets : List ℕ) (pieces : List (List ℕ)) (rest : List ℕ) : Type 0 where
  pub parts : octets ≡ joined pieces ++ rest
  pub each : AllByRecursion IsPiece pieces
  pub no_more : BeginsWithPiece rest → ⊥

-- ---- what octets begin with

abbrev pub in_range : ℕ → Bool
in_range command_length = nat_le 16 command_length && nat_le command_length 65536

-- a command_length is judged once the sixteen octets of the header are there
abbrev pub front_at : List ℕ → Front
front_at octets =
    if nat_lt (length octets) 16 then Waiting
    else (if in_range (number_at 0 octets) then (if nat_lt (length octets) (number_at 0 octets) then Waiting else Whole (number_at 0 octets))
    else BadLength)

-- a session that is broken or closed drops whatever arrives
abbrev pub front_of : SessionState → List ℕ → Front
front_of Closed octets = Dropped
front_of Broken octets = Dropped
front_of Opened octets = front_at octets
front_of BoundTx octets = front_at octets
front_of BoundRx octets = front_at octets
front_of BoundTrx octets = front_at octets
front_of Unbinding octets = front_at octets
front_of Finishing octets = front_at octets
