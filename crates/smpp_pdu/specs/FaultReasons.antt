-- Why octets are no PDU. A PDU begins with its command_length, which counts all of its octets (SMPP v3.4 3.2). So octets
-- are missing in its header, or there are fewer than command_length counts, or the body that it counts ends too early.
use Rattle.std.specs.Prelude.{◌≡◌, ◌≢◌, ◌⊎◌, ℕ, ◌+◌, ◌<◌, ◌≤◌, List, ◌++◌, length}
use Rattle.sms_base.specs.FaultReasons.{HasContinuation, HasFront}
use Rattle.smpp_pdu.specs.declared.body.Body.{Body}
use Rattle.smpp_pdu.specs.declared.command.CommandId.{CommandId}
use Rattle.smpp_pdu.specs.declared.header.Header.{Header}
use Rattle.smpp_pdu.specs.Commands.{command_number}
use Rattle.smpp_pdu.specs.Fields.{four}
use Rattle.smpp_pdu.specs.PduGrammar.{IsBody, command_of_body, header_octets}

-- the octets of a body of that command
abbrev pub IsBodyOf : CommandId → List ℕ → Body → Type 0
IsBodyOf command octets body = (command_of_body body ≡ command) × IsBody octets body

-- A PDU has sixteen octets, those of its header, to 65,536.
abbrev pub IsCommandLength : ℕ → Type 0
IsCommandLength n = (16 ≤ n) × (n ≤ 65536)

-- ---- the header

-- command_length counts fewer octets than a header has, or more than a PDU may have
abbrev pub HasBadCommandLength : List ℕ → Type 0
HasBadCommandLength octets = (n : ℕ) × (rest : List ℕ) × (octets ≡ four n ++ rest) × (¬ IsCommandLength n)

-- command_length is in its range, and no command has the command_id
abbrev pub HasNoCommand : List ℕ → Type 0
HasNoCommand octets =
    (n : ℕ) × (number : ℕ) × (rest : List ℕ) × (octets ≡ four n ++ (four number ++ rest)) × IsCommandLength n
    × ((command : CommandId) → command_number command ≢ number)

-- a header that a PDU of that command can have, and the octets behind it
pub record HasHeader (octets : List ℕ) (header : Header) (command : CommandId) (rest : List ℕ) : Type 0 where
  pub begins : octets ≡ header_octets header ++ rest
  pub length_is : IsCommandLength header.command_length
  pub command_is : header.command_id ≡ command_number command

-- ---- the body

-- behind such a header are all octets of the body that command_length counts, and perhaps others behind them
abbrev pub HasBody : List ℕ → CommandId → List ℕ → Type 0
HasBody octets command body =
    (header : Header) × (after : List ℕ) × HasHeader octets header command (body ++ after) × (16 + length body ≡ header.command_length)

-- behind such a header are fewer octets than command_length counts, all of them of the body
abbrev pub HasBodyFront : List ℕ → CommandId → List ℕ → Type 0
HasBodyFront octets command body = (header : Header) × HasHeader octets header command body × (16 + length body < header.command_length)

-- ---- octets that are missing

-- the header is not whole
abbrev pub EndsInHeader : List ℕ → Type 0
EndsInHeader octets = length octets < 16

-- there are fewer octets than command_length counts
abbrev pub EndsBeforeLength : List ℕ → Type 0
EndsBeforeLength octets = (command : CommandId) × (body : List ℕ) × HasBodyFront octets command body

-- The body that command_length counts ends too early: octets may follow with which it is a body.
abbrev pub HasShortBody : List ℕ → Type 0
HasShortBody octets = (command : CommandId) × (body : List ℕ) × HasBody octets command body × HasContinuation (IsBodyOf command) body

-- ---- octets that are left over, and octets that are wrong

-- A proper front of the body that command_length counts is a body.
abbrev pub HasLongBody : List ℕ → Type 0
HasLongBody octets = (command : CommandId) × (body : List ℕ) × HasBody octets command body × HasFront (IsBodyOf command) body

-- No body begins with the octets of the body that are there.
abbrev pub HasWrongBody : List ℕ → Type 0
HasWrongBody octets =
    (command : CommandId) × (octets_of_body : List ℕ)
    × (HasBody octets command octets_of_body ⊎ HasBodyFront octets command octets_of_body)
    × ((more : List ℕ) (body : Body) → ¬ IsBodyOf command (octets_of_body ++ more) body)
