-- Why a SUBMIT is refused, and the cause that the handset is sent (3GPP TS 24.011 8.2.5.4, 3GPP TS 23.040 9.2.3.22).
use Rattle.sms_relay.specs.declared.cause.RpCause.{RpCause}
use Rattle.sms_relay.specs.declared.cause.RpCause.TheVariants.{ShortMessageTransferRejected, Congestion, InvalidMandatoryInformation, MessageTypeNonExistent}
use Rattle.sms_tpdu.specs.declared.codes.FailureCause.{FailureCause}
use Rattle.sms_tpdu.specs.declared.codes.FailureCause.TheVariants.{ServiceCentreBusy, InvalidSmeAddress, DestinationBarred, DuplicateShortMessage}
use Rattle.sms_tpdu.specs.declared.codes.FailureCause.TheVariants.{ValidityPeriodFormatNotSupported, UnspecifiedErrorCause}
use Rattle.sms_tpdu.specs.declared.fault.TpduFault.{TpduFault}
use Rattle.sms_tpdu.specs.declared.fault.TpduFault.TheVariants.{Truncated, TrailingOctets, BadAddress, BadTime, UserDataTooLong, UnsupportedType}
use Rattle.sms_tpdu.specs.declared.fault.TpduFault.TheVariants.{UnsupportedValidity, SpareBits, BadHeader}
use Rattle.sms_intake.specs.declared.refusal.SubmitRefusal.{SubmitRefusal}
use Rattle.sms_intake.specs.declared.refusal.SubmitRefusal.TheVariants.{WrongType, WrongValidityFormat, Unreadable, NoHandset, OfAccount, PastLimit, Duplicate}
use Rattle.sms_intake.specs.declared.refusal.SubmitRefusal.TheVariants.{ReferenceTaken, Congested}

abbrev pub unread : TpduFault → SubmitRefusal
unread UnsupportedType = WrongType
unread UnsupportedValidity = WrongValidityFormat
unread Truncated = Unreadable
unread TrailingOctets = Unreadable
unread BadAddress = Unreadable
unread BadTime = Unreadable
unread UserDataTooLong = Unreadable
unread SpareBits = Unreadable
unread BadHeader = Unreadable

-- RP-Cause: 97, 21, 96, or 42
abbrev pub cause_of : SubmitRefusal → RpCause
cause_of WrongType = MessageTypeNonExistent
cause_of WrongValidityFormat = ShortMessageTransferRejected
cause_of Unreadable = InvalidMandatoryInformation
cause_of NoHandset = ShortMessageTransferRejected
cause_of OfAccount = ShortMessageTransferRejected
cause_of PastLimit = ShortMessageTransferRejected
cause_of Duplicate = ShortMessageTransferRejected
cause_of ReferenceTaken = ShortMessageTransferRejected
cause_of Congested = Congestion

-- TP-FCS: FF, C6, C3, C4, C5, or C0
abbrev pub failure_of : SubmitRefusal → FailureCause
failure_of WrongType = UnspecifiedErrorCause
failure_of WrongValidityFormat = ValidityPeriodFormatNotSupported
failure_of Unreadable = UnspecifiedErrorCause
failure_of NoHandset = InvalidSmeAddress
failure_of OfAccount = DestinationBarred
failure_of PastLimit = UnspecifiedErrorCause
failure_of Duplicate = DuplicateShortMessage
failure_of ReferenceTaken = UnspecifiedErrorCause
failure_of Congested = ServiceCentreBusy
