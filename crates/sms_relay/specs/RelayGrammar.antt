-- Which octets are which units of the relay layer (3GPP TS 24.011 7.3 and 8.2), as a relation between whole lists of
-- octets and units. Each unit has one written list; an RP-ERROR is read also from lists with a diagnostic octet.
use Rattle.std.specs.Prelude.{◌≡◌, ℕ, ◌<◌, ◌≤◌, ◌⊎◌, List, [], ◌∷◌, ◌++◌, length, Option, Some, None}
use Rattle.sms_relay.specs.declared.cause.RpCause.{RpCause}
use Rattle.sms_relay.specs.declared.frame.Rp.{Rp}
use Rattle.sms_relay.specs.declared.frame.Rp.TheVariants.{DataUnit, AckUnit, ErrorUnit, Smma}
use Rattle.sms_relay.specs.declared.message_type.Direction.{Direction}
use Rattle.sms_relay.specs.declared.message_type.Direction.TheVariants.{Up, Down}
use Rattle.sms_relay.specs.declared.message_type.MessageType.TheVariants.{Data, Ack, Error, Smma as SmmaType}
use Rattle.sms_relay.specs.Cause.{number_of, IsRpCause}
use Rattle.sms_relay.specs.MessageType.{type_octet}

-- ---- the fields

-- 8.2.5.1 and 8.2.5.2: the address of the service centre has a type octet and 1 to 10 octets of digits.
abbrev pub IsCentre : List ℕ → Type 0
IsCentre centre = (2 ≤ length centre) × (length centre ≤ 11)

-- 8.2.5.3: the length of a TPDU is one octet.
abbrev pub IsTpdu : List ℕ → Type 0
IsTpdu unit = length unit < 256

-- user data of an answer: a TPDU, or none
abbrev pub IsUserData : Option (List ℕ) → Type 0
IsUserData None = Unit {0}
IsUserData (Some unit) = IsTpdu unit

-- 8.2.5.3: in an answer the identifier 41 (hexadecimal) precedes the length and the TPDU.
abbrev pub user_data : Option (List ℕ) → List ℕ
user_data None = []
user_data (Some unit) = 65 ∷ length unit ∷ unit

-- 8.2.5.4: a length, the cause, and perhaps a diagnostic octet, which is passed over
abbrev pub IsCauseField : List ℕ → RpCause → Type 0
IsCauseField field cause = (field ≡ 1 ∷ number_of cause ∷ []) ⊎ ((diagnostic : ℕ) × (field ≡ 2 ∷ number_of cause ∷ diagnostic ∷ []))

-- ---- the written lists

-- 7.3.1: the addresses of an RP-DATA in front of what follows, the originator's first. The address of the handset is empty.
-- The centre is the destination upwards (7.3.1.2) and the originator downwards (7.3.1.1).
abbrev pub addresses : Direction → List ℕ → List ℕ → List ℕ
addresses Up centre rest = 0 ∷ length centre ∷ (centre ++ rest)
addresses Down centre rest = length centre ∷ (centre ++ (0 ∷ rest))

abbrev pub data_octets : Direction → ℕ → List ℕ → List ℕ → List ℕ
data_octets direction reference centre unit = type_octet direction Data ∷ reference ∷ addresses direction centre (length unit ∷ unit)

-- 7.3.3
abbrev pub ack_octets : Direction → ℕ → Option (List ℕ) → List ℕ
ack_octets direction reference unit = type_octet direction Ack ∷ reference ∷ user_data unit

-- 7.3.4: written without a diagnostic
abbrev pub error_octets : Direction → ℕ → RpCause → Option (List ℕ) → List ℕ
error_octets direction reference cause unit = type_octet direction Error ∷ reference ∷ 1 ∷ number_of cause ∷ user_data unit

-- 7.3.2: RP-SMMA is sent up alone
abbrev pub smma_octets : Direction → ℕ → List ℕ
smma_octets Up reference = type_octet Up SmmaType ∷ reference ∷ []
smma_octets Down reference = []

-- the list of a unit that is sent in a direction
abbrev pub unit_octets : Direction → Rp → List ℕ
unit_octets direction (DataUnit reference centre unit) = data_octets direction reference centre unit
unit_octets direction (AckUnit reference unit) = ack_octets direction reference unit
unit_octets direction (ErrorUnit reference cause unit) = error_octets direction reference cause unit
unit_octets direction (Smma reference) = smma_octets direction reference

-- ---- the units of a direction

abbrev pub SendsSmma : Direction → Type 0
SendsSmma Up = Unit {0}
SendsSmma Down = ⊥

-- A unit that may be sent in a direction.
abbrev pub IsValue : Direction → Rp → Type 0
IsValue direction (DataUnit reference centre unit) = IsCentre centre × IsTpdu unit
IsValue direction (AckUnit reference unit) = IsUserData unit
IsValue direction (ErrorUnit reference cause unit) = IsRpCause cause × IsUserData unit
IsValue direction (Smma reference) = SendsSmma direction

abbrev pub IsSmma : Direction → List ℕ → ℕ → Type 0
IsSmma Up octets reference = octets ≡ smma_octets Up reference
IsSmma Down octets reference = ⊥

-- The octets are a unit that is sent in a direction.
abbrev pub IsUnit : Direction → List ℕ → Rp → Type 0
IsUnit direction octets (DataUnit reference centre unit) = IsCentre centre × IsTpdu unit × (octets ≡ data_octets direction reference centre unit)
IsUnit direction octets (AckUnit reference unit) = IsUserData unit × (octets ≡ ack_octets direction reference unit)
IsUnit direction octets (ErrorUnit reference cause unit) =
    IsRpCause cause × IsUserData unit
    × ((field : List ℕ) × IsCauseField field cause × (octets ≡ type_octet direction Error ∷ reference ∷ (field ++ user_data unit)))
IsUnit direction octets (Smma reference) = IsSmma direction octets reference

-- The octets are the written list of a unit.
abbrev pub IsWritten : Direction → List ℕ → Rp → Type 0
IsWritten direction octets rp = IsValue direction rp × (octets ≡ unit_octets direction rp)

-- ---- from the handset

abbrev pub data_up : ℕ → List ℕ → List ℕ → List ℕ
data_up reference centre unit = data_octets Up reference centre unit

abbrev pub ack_up : ℕ → Option (List ℕ) → List ℕ
ack_up reference unit = ack_octets Up reference unit

abbrev pub error_up : ℕ → RpCause → Option (List ℕ) → List ℕ
error_up reference cause unit = error_octets Up reference cause unit

abbrev pub smma_up : ℕ → List ℕ
smma_up reference = smma_octets Up reference

abbrev pub up_octets : Rp → List ℕ
up_octets rp = unit_octets Up rp

abbrev pub IsUpValue : Rp → Type 0
IsUpValue rp = IsValue Up rp

abbrev pub IsUp : List ℕ → Rp → Type 0
IsUp octets rp = IsUnit Up octets rp

abbrev pub IsWrittenUp : List ℕ → Rp → Type 0
IsWrittenUp octets rp = IsWritten Up octets rp

-- ---- to the handset

abbrev pub data_down : ℕ → List ℕ → List ℕ → List ℕ
data_down reference centre unit = data_octets Down reference centre unit

abbrev pub ack_down : ℕ → Option (List ℕ) → List ℕ
ack_down reference unit = ack_octets Down reference unit

abbrev pub error_down : ℕ → RpCause → Option (List ℕ) → List ℕ
error_down reference cause unit = error_octets Down reference cause unit

abbrev pub down_octets : Rp → List ℕ
down_octets rp = unit_octets Down rp

abbrev pub IsDownValue : Rp → Type 0
IsDownValue rp = IsValue Down rp

abbrev pub IsDown : List ℕ → Rp → Type 0
IsDown octets rp = IsUnit Down octets rp

abbrev pub IsWrittenDown : List ℕ → Rp → Type 0
IsWrittenDown octets rp = IsWritten Down octets rp

-- ---- units that are cut

-- the octets of a unit's user data, where they may be left out
abbrev pub user_data_of : Rp → List ℕ
user_data_of (DataUnit reference centre unit) = []
user_data_of (AckUnit reference unit) = user_data unit
user_data_of (ErrorUnit reference cause unit) = user_data unit
user_data_of (Smma reference) = []

-- the unit without them
abbrev pub bare : Rp → Rp
bare (DataUnit reference centre unit) = DataUnit reference centre unit
bare (AckUnit reference unit) = AckUnit reference None
bare (ErrorUnit reference cause unit) = ErrorUnit reference cause None
bare (Smma reference) = Smma reference
