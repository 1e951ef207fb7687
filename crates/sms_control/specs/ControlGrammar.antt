-- Which octets are which frames of the control layer (3GPP TS 24.011 7.2 and 8.1).
use Rattle.std.specs.Prelude.{◌≡◌, ℕ, ◌+◌, ◌*◌, ◌/◌, ◌%◌, ◌<◌, ◌≤◌, List, [], ◌∷◌, length, Option, Some, None, nat_lt, ◌==◌, ◌&&◌, if◌then◌else◌, unwrap_or}
use Rattle.std.specs.List.{find}
use Rattle.sms_control.specs.declared.cause.CpCause.{CpCause}
use Rattle.sms_control.specs.declared.cause.CpCause.TheVariants.{NetworkFailure, Congestion, InvalidTransactionIdentifier, SemanticallyIncorrectMessage}
use Rattle.sms_control.specs.declared.cause.CpCause.TheVariants.{InvalidMandatoryInformation, MessageTypeNonExistent, MessageNotCompatible}
use Rattle.sms_control.specs.declared.cause.CpCause.TheVariants.{InformationElementNonExistent, ProtocolErrorUnspecified, Other}
use Rattle.sms_control.specs.declared.message_type.MessageType.{MessageType}
use Rattle.sms_control.specs.declared.message_type.MessageType.TheVariants.{Data, Ack, Error}
use Rattle.sms_control.specs.declared.transaction.TransactionFlag.{TransactionFlag}
use Rattle.sms_control.specs.declared.transaction.TransactionFlag.TheVariants.{FromOriginator, ToOriginator}
use Rattle.sms_control.specs.declared.transaction.Transaction.{Transaction}
use Rattle.sms_control.specs.declared.message.Cp.{Cp}
use Rattle.sms_control.specs.declared.message.Cp.TheVariants.{DataUnit, AckUnit, ErrorUnit}

-- ---- 3GPP TS 24.007 11.2.3.1: the protocol discriminator 9 in the low half, the transaction in the high half

-- the flag, in the highest bit
abbrev pub flag_value : TransactionFlag → ℕ
flag_value FromOriginator = 0
flag_value ToOriginator = 128

abbrev pub flag_of : ℕ → TransactionFlag
flag_of octet = if nat_lt octet 128 then FromOriginator else ToOriginator

abbrev pub turned : TransactionFlag → TransactionFlag
turned FromOriginator = ToOriginator
turned ToOriginator = FromOriginator

abbrev pub head_octet : Transaction → ℕ
head_octet transaction = 9 + 16 * transaction.identifier + flag_value transaction.flag

-- the transaction, unless it is another protocol or the reserved identifier
abbrev pub head_of : ℕ → Option Transaction
head_of octet =
    if octet % 16 == 9 && nat_lt (octet / 16 % 8) 7
    then Some (record { flag = flag_of octet; identifier = octet / 16 % 8 })
    else None

-- ---- 3GPP TS 24.011 8.1.3: the type of a message

abbrev pub type_octet : MessageType → ℕ
type_octet Data = 1
type_octet Ack = 4
type_octet Error = 16

-- the types that there are
abbrev pub types : List MessageType
types = Data ∷ Ack ∷ Error ∷ []

-- the type that an octet names, if it names one
unfoldable pub type_of : ℕ → Option MessageType
type_of octet = find (λ kind. type_octet kind == octet) types

-- ---- 3GPP TS 24.011 8.1.4.2 (table 8.2): the cause

abbrev pub cause_octet : CpCause → ℕ
cause_octet NetworkFailure = 17
cause_octet Congestion = 22
cause_octet InvalidTransactionIdentifier = 81
cause_octet SemanticallyIncorrectMessage = 95
cause_octet InvalidMandatoryInformation = 96
cause_octet MessageTypeNonExistent = 97
cause_octet MessageNotCompatible = 98
cause_octet InformationElementNonExistent = 99
cause_octet ProtocolErrorUnspecified = 111
cause_octet (Other octet) = octet

-- the causes that have a name
abbrev pub named : List CpCause
named =
    NetworkFailure ∷ Congestion ∷ InvalidTransactionIdentifier ∷ SemanticallyIncorrectMessage ∷ InvalidMandatoryInformation
    ∷ MessageTypeNonExistent ∷ MessageNotCompatible ∷ InformationElementNonExistent ∷ ProtocolErrorUnspecified ∷ []

-- the cause that an octet names: the named one, if there is one, else the octet as it is
unfoldable pub cause_of : ℕ → CpCause
cause_of octet = unwrap_or (find (λ cause. cause_octet cause == octet) named) (Other octet)

-- a cause of a frame: one that has a name, or an octet that no named cause has
abbrev pub IsCpCause : CpCause → Type 0
IsCpCause (Other octet) = cause_of octet ≡ Other octet
IsCpCause named_cause = Unit {0}

-- ---- the frames

-- the octets that a value is written as
abbrev pub spelled : Cp → List ℕ
spelled (DataUnit transaction unit) = head_octet transaction ∷ 1 ∷ length unit ∷ unit
spelled (AckUnit transaction) = head_octet transaction ∷ 4 ∷ []
spelled (ErrorUnit transaction cause) = head_octet transaction ∷ 16 ∷ cause_octet cause ∷ []

-- a unit has 1 to 248 octets
abbrev pub FitsUnit : Cp → Type 0
FitsUnit (DataUnit transaction unit) = (0 < length unit) × (length unit ≤ 248)
FitsUnit (AckUnit transaction) = Unit {0}
FitsUnit (ErrorUnit transaction cause) = Unit {0}

-- a value of the layer: identifiers are 0 to 6, and a unit has 1 to 248 octets
abbrev pub IsCpValue : Cp → Type 0
IsCpValue (DataUnit transaction unit) = (transaction.identifier < 7) × (0 < length unit) × (length unit ≤ 248)
IsCpValue (AckUnit transaction) = transaction.identifier < 7
IsCpValue (ErrorUnit transaction cause) = (transaction.identifier < 7) × IsCpCause cause

-- the octets are a frame of this value
pub record IsCp (octets : List ℕ) (cp : Cp) : Type 0 where
  pub value : IsCpValue cp
  pub spells : octets ≡ spelled cp
