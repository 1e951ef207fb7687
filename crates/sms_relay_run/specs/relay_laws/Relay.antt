-- What an empty service centre sends for one unit of the relay layer that a handset sends up.
use Rattle.std.specs.Prelude.{◌≡◌, ℕ, List, Bool, true, false, nat_le, slice_index, Option, Some, None, Result, Ok, Err, MatchResult, MatchBool}
use Rattle.sms_base.specs.declared.address.Address.{Address}
use Rattle.sms_relay.specs.declared.cause.RpCause.{RpCause}
use Rattle.sms_relay.specs.declared.cause.RpCause.TheVariants.{ShortMessageTransferRejected, InvalidMandatoryInformation, MessageTypeNonExistent}
use Rattle.sms_relay.specs.declared.fault.RelayFault.{RelayFault}
use Rattle.sms_relay.specs.declared.fault.RelayFault.TheVariants.{Truncated as RelayTruncated, Trailing as RelayTrailing, Unknown as RelayUnknown}
use Rattle.sms_relay.specs.declared.fault.RelayFault.TheVariants.{BadLength as RelayBadLength}
use Rattle.sms_relay.specs.declared.frame.Rp.{Rp}
use Rattle.sms_relay.specs.declared.frame.Rp.TheVariants.{DataUnit, AckUnit, ErrorUnit, Smma}
use Rattle.sms_relay.specs.RelayGrammar.{data_down, ack_down, error_down}
use Rattle.sms_relay.specs.RelayReading.{up_at}
use Rattle.sms_tpdu.specs.declared.carrier.Carrier.TheVariants.{InData}
use Rattle.sms_tpdu.specs.declared.deliver.Deliver.{Deliver}
use Rattle.sms_tpdu.specs.declared.fault.TpduFault.{TpduFault}
use Rattle.sms_tpdu.specs.declared.fault.TpduFault.TheVariants.{Truncated, TrailingOctets, BadAddress, BadTime, UserDataTooLong, UnsupportedType}
use Rattle.sms_tpdu.specs.declared.fault.TpduFault.TheVariants.{UnsupportedValidity, SpareBits, BadHeader}
use Rattle.sms_tpdu.specs.declared.submit.Submit.{Submit as SubmitOf}
use Rattle.sms_tpdu.specs.declared.submit_report.SubmitReport.{SubmitReport}
use Rattle.sms_tpdu.specs.declared.up.Up.{Up}
use Rattle.sms_tpdu.specs.declared.up.Up.TheVariants.{Submit, DeliverReport}
use Rattle.sms_tpdu.specs.declared.validity_period.ValidityPeriod.{ValidityPeriod}
use Rattle.sms_tpdu.specs.declared.validity_period.ValidityPeriod.TheVariants.{NotPresent, Relative, Absolute}
use Rattle.sms_tpdu.specs.AddressGrammar.{relay_address}
use Rattle.sms_tpdu.specs.TpduGrammar.{IsWrittenDeliver, IsWrittenSubmitReport}
use Rattle.sms_tpdu.specs.TpduReading.{up_at as tpdu_up_at}
use Rattle.sms_base.specs.HandsetNumber.{names_handset}
use Rattle.sms_relay_run.specs.declared.relay_laws.relayed.Relayed.{Relayed}
use Rattle.sms_relay_run.specs.declared.relay_laws.refusal.Refusal.{Refusal}
use Rattle.sms_relay_run.specs.declared.relay_laws.refusal.Refusal.TheVariants.{WrongType, WrongValidityFormat, Unreadable, NoHandset, PastLimit}
use Rattle.sms_relay_run.specs.declared.relay_laws.refusal.TheConstants.{INVALID_SME_ADDRESS, VALIDITY_PERIOD_FORMAT_NOT_SUPPORTED, UNSPECIFIED_ERROR}

-- no frame
abbrev pub IsNothing : Relayed → Type 0
IsNothing r = (r.answer ≡ None) × (r.down ≡ None)

-- that answer to the sender, and nothing down
abbrev pub IsAnswer : List ℕ → Relayed → Type 0
IsAnswer octets r = (r.answer ≡ Some octets) × (r.down ≡ None)

-- ---- refusals

-- A unit that can't be read is answered by RP-ERROR under the octet in the place of its reference, or 0. A message
-- type that doesn't exist has a cause of its own (3GPP TS 24.011 9.3).
abbrev pub unreadable_cause : RelayFault → RpCause
unreadable_cause RelayUnknown = MessageTypeNonExistent
unreadable_cause RelayTruncated = InvalidMandatoryInformation
unreadable_cause RelayTrailing = InvalidMandatoryInformation
unreadable_cause RelayBadLength = InvalidMandatoryInformation

abbrev pub unreadable_answer : List ℕ → RelayFault → List ℕ
unreadable_answer frame fault = error_down (slice_index frame 1) (unreadable_cause fault) None

-- the refusal of a SUBMIT that can't be read
abbrev pub refusal_of : TpduFault → Refusal
refusal_of UnsupportedType = WrongType
refusal_of UnsupportedValidity = WrongValidityFormat
refusal_of Truncated = Unreadable
refusal_of TrailingOctets = Unreadable
refusal_of BadAddress = Unreadable
refusal_of BadTime = Unreadable
refusal_of UserDataTooLong = Unreadable
refusal_of SpareBits = Unreadable
refusal_of BadHeader = Unreadable

-- the cause in the RP-ERROR of a refusal
abbrev pub cause_of : Refusal → RpCause
cause_of WrongType = MessageTypeNonExistent
cause_of WrongValidityFormat = ShortMessageTransferRejected
cause_of Unreadable = InvalidMandatoryInformation
cause_of NoHandset = ShortMessageTransferRejected
cause_of PastLimit = ShortMessageTransferRejected

-- the failure cause in the SUBMIT-REPORT that it carries (3GPP TS 23.040 9.2.3.22)
abbrev pub failure_cause_of : Refusal → ℕ
failure_cause_of WrongType = UNSPECIFIED_ERROR
failure_cause_of WrongValidityFormat = VALIDITY_PERIOD_FORMAT_NOT_SUPPORTED
failure_cause_of Unreadable = UNSPECIFIED_ERROR
failure_cause_of NoHandset = INVALID_SME_ADDRESS
failure_cause_of PastLimit = UNSPECIFIED_ERROR

-- a report with no parameters, of that moment
abbrev pub report_of : Option ℕ → ℕ → SubmitReport
report_of failure_cause now = record {
  failure_cause = failure_cause;
  service_centre_time_stamp = now;
  parameters = record { protocol_identifier = None; data_coding_scheme = None; user_data = None };
}

abbrev pub IsRefused : ℕ → ℕ → Refusal → Relayed → Type 0
IsRefused now reference refusal r =
    (report : List ℕ) × IsWrittenSubmitReport report (report_of (Some (failure_cause_of refusal)) now)
    × IsAnswer (error_down reference (cause_of refusal) (Some report)) r

-- ---- what is accepted

-- an absolute limit at or before the moment
abbrev pub is_past : ℕ → ValidityPeriod → Bool
is_past now NotPresent = false
is_past now (Relative period) = false
is_past now (Absolute limit) = nat_le limit now

-- The message that the destination gets for a SUBMIT. It has the sender as originator, the moment as time stamp, and
-- all that the sender chose as it chose it. No other message waits.
abbrev pub deliver_for : Address → ℕ → SubmitOf → Deliver
deliver_for from now s = record {
  no_more_messages_to_send = true;
  loop_prevention = false;
  status_report_indication = s.status_report_request;
  user_data_header_indicator = s.user_data_header_indicator;
  reply_path = s.reply_path;
  originating_address = from;
  protocol_identifier = s.protocol_identifier;
  data_coding_scheme = s.data_coding_scheme;
  service_centre_time_stamp = now;
  user_data = s.user_data;
}

-- RP-ACK with a SUBMIT-REPORT to the sender, and the message to its destination under reference 0
abbrev pub IsAccepted : Address → Address → ℕ → ℕ → SubmitOf → Relayed → Type 0
IsAccepted centre from now reference s r =
    (report : List ℕ) × (unit : List ℕ)
    × IsWrittenSubmitReport report (report_of None now)
    × IsWrittenDeliver unit (deliver_for from now s)
    × (r.answer ≡ Some (ack_down reference (Some report)))
    × (r.down ≡ Some (s.destination_address, data_down 0 (relay_address centre) unit))

abbrev pub RelaysSubmit : Address → Address → ℕ → ℕ → Relayed → SubmitOf → Type 0
RelaysSubmit centre from now reference r s =
    MatchBool (names_handset s.destination_address)
    (MatchBool (is_past now s.validity_period) (IsRefused now reference PastLimit r) (IsAccepted centre from now reference s r))
    (IsRefused now reference NoHandset r)

-- DELIVER-REPORT is never in RP-DATA
abbrev pub RelaysTpdu : Address → Address → ℕ → ℕ → Relayed → Up → Type 0
RelaysTpdu centre from now reference r (Submit s) = RelaysSubmit centre from now reference r s
RelaysTpdu centre from now reference r (DeliverReport report) = ⊥

-- RP-SMMA is acknowledged; answers that nothing was asked for are dropped
abbrev pub RelaysUnit : Address → Address → ℕ → Relayed → Rp → Type 0
RelaysUnit centre from now r (DataUnit reference named unit) =
    MatchResult (tpdu_up_at InData unit) (RelaysTpdu centre from now reference r) (λ fault. IsRefused now reference (refusal_of fault) r)
RelaysUnit centre from now r (AckUnit reference unit) = IsNothing r
RelaysUnit centre from now r (ErrorUnit reference cause unit) = IsNothing r
RelaysUnit centre from now r (Smma reference) = IsAnswer (ack_down reference None) r

abbrev pub IsRelayed : Address → Address → ℕ → List ℕ → Relayed → Type 0
IsRelayed centre from now frame r = MatchResult (up_at frame) (RelaysUnit centre from now r) (λ fault. IsAnswer (unreadable_answer frame fault) r)

-- the unit is an answer, for which nothing is sent
abbrev pub IsAnswerUnit : Result Rp RelayFault → Type 0
IsAnswerUnit (Ok (DataUnit reference centre unit)) = ⊥
IsAnswerUnit (Ok (AckUnit reference unit)) = Unit {0}
IsAnswerUnit (Ok (ErrorUnit reference cause unit)) = Unit {0}
IsAnswerUnit (Ok (Smma reference)) = ⊥
IsAnswerUnit (Err fault) = ⊥
