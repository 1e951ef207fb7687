-- The values of RP-Cause (3GPP TS 24.011 8.2.5.4 and annex E).
use Rattle.std.specs.Prelude.{◌≡◌, ℕ, ◌<◌, List, [], ◌∷◌, ◌==◌, unwrap_or}
use Rattle.std.specs.List.{find}
use Rattle.sms_relay.specs.declared.cause.RpCause.{RpCause}
use Rattle.sms_relay.specs.declared.cause.RpCause.TheVariants.{UnassignedNumber, OperatorDeterminedBarring, CallBarred, ShortMessageTransferRejected}
use Rattle.sms_relay.specs.declared.cause.RpCause.TheVariants.{MemoryCapacityExceeded, DestinationOutOfOrder, UnidentifiedSubscriber, FacilityRejected}
use Rattle.sms_relay.specs.declared.cause.RpCause.TheVariants.{UnknownSubscriber, NetworkOutOfOrder, TemporaryFailure, Congestion, ResourcesUnavailable}
use Rattle.sms_relay.specs.declared.cause.RpCause.TheVariants.{RequestedFacilityNotSubscribed, RequestedFacilityNotImplemented}
use Rattle.sms_relay.specs.declared.cause.RpCause.TheVariants.{InvalidShortMessageTransferReference, SemanticallyIncorrectMessage, InvalidMandatoryInformation}
use Rattle.sms_relay.specs.declared.cause.RpCause.TheVariants.{MessageTypeNonExistent, MessageNotCompatible, InformationElementNonExistent, ProtocolError}
use Rattle.sms_relay.specs.declared.cause.RpCause.TheVariants.{Interworking, Reserved}

-- the number of each cause
abbrev pub number_of : RpCause → ℕ
number_of UnassignedNumber = 1
number_of OperatorDeterminedBarring = 8
number_of CallBarred = 10
number_of ShortMessageTransferRejected = 21
number_of MemoryCapacityExceeded = 22
number_of DestinationOutOfOrder = 27
number_of UnidentifiedSubscriber = 28
number_of FacilityRejected = 29
number_of UnknownSubscriber = 30
number_of NetworkOutOfOrder = 38
number_of TemporaryFailure = 41
number_of Congestion = 42
number_of ResourcesUnavailable = 47
number_of RequestedFacilityNotSubscribed = 50
number_of RequestedFacilityNotImplemented = 69
number_of InvalidShortMessageTransferReference = 81
number_of SemanticallyIncorrectMessage = 95
number_of InvalidMandatoryInformation = 96
number_of MessageTypeNonExistent = 97
number_of MessageNotCompatible = 98
number_of InformationElementNonExistent = 99
number_of ProtocolError = 111
number_of Interworking = 127
number_of (Reserved number) = number

-- the causes that have a name
abbrev pub named : List RpCause
named =
    UnassignedNumber ∷ OperatorDeterminedBarring ∷ CallBarred ∷ ShortMessageTransferRejected ∷ MemoryCapacityExceeded ∷ DestinationOutOfOrder
    ∷ UnidentifiedSubscriber ∷ FacilityRejected ∷ UnknownSubscriber ∷ NetworkOutOfOrder ∷ TemporaryFailure ∷ Congestion
    ∷ ResourcesUnavailable ∷ RequestedFacilityNotSubscribed ∷ RequestedFacilityNotImplemented ∷ InvalidShortMessageTransferReference
    ∷ SemanticallyIncorrectMessage ∷ InvalidMandatoryInformation
    ∷ MessageTypeNonExistent ∷ MessageNotCompatible ∷ InformationElementNonExistent ∷ ProtocolError ∷ Interworking ∷ []

-- the cause with a number: the named one that has it, if there is one, else the reserved value
unfoldable pub cause_of : ℕ → RpCause
cause_of number = unwrap_or (find (λ cause. number_of cause == number) named) (Reserved number)

-- A cause of a frame: one that has a name, or a number below 128 that no named cause has.
abbrev pub IsRpCause : RpCause → Type 0
IsRpCause (Reserved number) = (number < 128) × (cause_of number ≡ Reserved number)
IsRpCause named_cause = Unit {0}
