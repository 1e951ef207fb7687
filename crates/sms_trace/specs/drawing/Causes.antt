-- The causes of errors in the standard's words (3GPP TS 24.011: of a transfer 8.2.5.4 and annex E, of a transaction 8.1.4.2).
use Rattle.std.specs.Prelude.{ℕ, List, [], Option, Some, None, Result, Ok, Err, codes}
use Rattle.sms_control.specs.ControlReading.{cp_at}
use Rattle.sms_control.specs.declared.cause.CpCause.{CpCause}
use Rattle.sms_control.specs.declared.cause.CpCause.TheVariants as control
use Rattle.sms_control.specs.declared.fault.CpFault.{CpFault}
use Rattle.sms_control.specs.declared.message.Cp.{Cp}
use Rattle.sms_control.specs.declared.message.Cp.TheVariants as frame
use Rattle.sms_control.specs.ControlGrammar.{cause_octet}
use Rattle.sms_relay.specs.Cause.{number_of}
use Rattle.sms_relay.specs.RelayReading.{down_at, up_at}
use Rattle.sms_relay.specs.declared.cause.RpCause.{RpCause}
use Rattle.sms_relay.specs.declared.cause.RpCause.TheVariants as relay
use Rattle.sms_relay.specs.declared.fault.RelayFault.{RelayFault}
use Rattle.sms_relay.specs.declared.frame.Rp.{Rp}
use Rattle.sms_relay.specs.declared.frame.Rp.TheVariants as unit
use Rattle.sms_script.specs.declared.report.rows.Direction.{Direction}
use Rattle.sms_script.specs.declared.report.rows.Direction.TheVariants.{Up, Down}
use Rattle.sms_trace.specs.declared.drawing.causes.Cause.{Cause}
use Rattle.sms_trace.specs.declared.drawing.causes.Cause.TheVariants as cause

-- ---- which cause a frame names

-- that of an RP-ERROR
abbrev pub unit_cause : Result Rp RelayFault → Option Cause
unit_cause (Ok (unit.DataUnit reference centre tpdu)) = None
unit_cause (Ok (unit.AckUnit reference tpdu)) = None
unit_cause (Ok (unit.ErrorUnit reference named tpdu)) = Some (cause.Relay named)
unit_cause (Ok (unit.Smma reference)) = None
unit_cause (Err fault) = None

abbrev pub relayed : Direction → List ℕ → Result Rp RelayFault
relayed Up octets = up_at octets
relayed Down octets = down_at octets

-- that of a CP-ERROR, or of the RP-ERROR that a CP-DATA carries
abbrev pub frame_cause : Direction → Result Cp CpFault → Option Cause
frame_cause direction (Ok (frame.DataUnit transaction octets)) = unit_cause (relayed direction octets)
frame_cause direction (Ok (frame.AckUnit transaction)) = None
frame_cause direction (Ok (frame.ErrorUnit transaction named)) = Some (cause.Control named)
frame_cause direction (Err fault) = None

abbrev pub cause_of_frame : Direction → List ℕ → Option Cause
cause_of_frame direction octets = frame_cause direction (cp_at octets)

-- ---- its words; none where the standard has none

abbrev pub relay_words : RpCause → List ℕ
relay_words relay.UnassignedNumber = codes "unassigned number"
relay_words relay.OperatorDeterminedBarring = codes "operator determined barring"
relay_words relay.CallBarred = codes "call barred"
relay_words relay.ShortMessageTransferRejected = codes "short message transfer rejected"
relay_words relay.MemoryCapacityExceeded = codes "memory capacity exceeded"
relay_words relay.DestinationOutOfOrder = codes "destination out of order"
relay_words relay.UnidentifiedSubscriber = codes "unidentified subscriber"
relay_words relay.FacilityRejected = codes "facility rejected"
relay_words relay.UnknownSubscriber = codes "unknown subscriber"
relay_words relay.NetworkOutOfOrder = codes "network out of order"
relay_words relay.TemporaryFailure = codes "temporary failure"
relay_words relay.Congestion = codes "congestion"
relay_words relay.ResourcesUnavailable = codes "resources unavailable, unspecified"
relay_words relay.RequestedFacilityNotSubscribed = codes "requested facility not subscribed"
relay_words relay.RequestedFacilityNotImplemented = codes "requested facility not implemented"
relay_words relay.InvalidShortMessageTransferReference = codes "invalid short message transfer reference value"
relay_words relay.SemanticallyIncorrectMessage = codes "semantically incorrect message"
relay_words relay.InvalidMandatoryInformation = codes "invalid mandatory information"
relay_words relay.MessageTypeNonExistent = codes "message type non-existent or not implemented"
relay_words relay.MessageNotCompatible = codes "message not compatible with short message protocol state"
relay_words relay.InformationElementNonExistent = codes "information element non-existent or not implemented"
relay_words relay.ProtocolError = codes "protocol error, unspecified"
relay_words relay.Interworking = codes "interworking, unspecified"
relay_words (relay.Reserved number) = []

abbrev pub control_words : CpCause → List ℕ
control_words control.NetworkFailure = codes "network failure"
control_words control.Congestion = codes "congestion"
control_words control.InvalidTransactionIdentifier = codes "invalid transaction identifier value"
control_words control.SemanticallyIncorrectMessage = codes "semantically incorrect message"
control_words control.InvalidMandatoryInformation = codes "invalid mandatory information"
control_words control.MessageTypeNonExistent = codes "message type non-existent or not implemented"
control_words control.MessageNotCompatible = codes "message not compatible with the short message protocol state"
control_words control.InformationElementNonExistent = codes "information element non-existent or not implemented"
control_words control.ProtocolErrorUnspecified = codes "protocol error, unspecified"
control_words (control.Other octet) = []

abbrev pub words : Cause → List ℕ
words (cause.Relay named) = relay_words named
words (cause.Control named) = control_words named

-- ---- its number

abbrev pub cause_number : Cause → ℕ
cause_number (cause.Relay named) = number_of named
cause_number (cause.Control named) = cause_octet named
