-- What answers a unit that cannot be read (3GPP TS 24.011 9.3).
use Rattle.std.specs.Prelude.{ℕ, List, [], ◌∷◌}
use Rattle.sms_relay.specs.declared.cause.RpCause.{RpCause}
use Rattle.sms_relay.specs.declared.cause.RpCause.TheVariants.{InvalidMandatoryInformation, MessageTypeNonExistent}
use Rattle.sms_relay.specs.declared.fault.RelayFault.{RelayFault}
use Rattle.sms_relay.specs.declared.fault.RelayFault.TheVariants.{Truncated, Trailing, Unknown, BadLength}

-- the cause is another for a type that does not exist
abbrev pub fault_cause : RelayFault → RpCause
fault_cause Truncated = InvalidMandatoryInformation
fault_cause Trailing = InvalidMandatoryInformation
fault_cause Unknown = MessageTypeNonExistent
fault_cause BadLength = InvalidMandatoryInformation

-- the octet of the reference, or 0
abbrev pub reference_octet : List ℕ → ℕ
reference_octet [] = 0
reference_octet (kind ∷ []) = 0
reference_octet (kind ∷ reference ∷ rest) = reference
