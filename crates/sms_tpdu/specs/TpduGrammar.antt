-- The TPDUs (3GPP TS 23.040 9.2.2, 9.2.3): which octets are which value, by carrier and message type.
-- Bits of the first octet that no field names are not looked at, so that several lists may be one value.
use Rattle.std.specs.Prelude.{◌≡◌, ℕ, ◌+◌, ◌*◌, ◌/◌, ◌%◌, ◌≤◌, List, [], ◌∷◌, ◌++◌, Bool, true, false, ◌==◌, if◌then◌else◌, Option, Some, None}
use Rattle.sms_base.specs.TimeStamp.{IsScts, IsWrittenScts}
use Rattle.sms_alphabet.specs.DataCodingScheme.{coding_of}
use Rattle.sms_alphabet.specs.declared.scheme.Coding.{Coding}
use Rattle.sms_alphabet.specs.declared.scheme.Coding.TheVariants.{Septets}
use Rattle.sms_tpdu.specs.Bits.{bit, bit_value}
use Rattle.sms_tpdu.specs.AddressGrammar.{IsAddressField, address_field}
use Rattle.sms_base.specs.Address.{IsAddress}
use Rattle.sms_tpdu.specs.UserDataGrammar.{IsUserData, user_data_field}
use Rattle.sms_tpdu.specs.declared.carrier.Carrier.{Carrier}
use Rattle.sms_tpdu.specs.declared.carrier.Carrier.TheVariants.{InData, InAck, InError}
use Rattle.sms_tpdu.specs.declared.validity_period.ValidityPeriod.{ValidityPeriod}
use Rattle.sms_tpdu.specs.declared.validity_period.ValidityPeriod.TheVariants.{NotPresent, Relative, Absolute}
use Rattle.sms_tpdu.specs.declared.user_data.UserData.{UserData}
use Rattle.sms_tpdu.specs.declared.parameters.Parameters.{Parameters}
use Rattle.sms_tpdu.specs.declared.deliver.Deliver.{Deliver as DeliverOf}
use Rattle.sms_tpdu.specs.declared.submit.Submit.{Submit as SubmitOf}
use Rattle.sms_tpdu.specs.declared.submit_report.SubmitReport.{SubmitReport as SubmitReportOf}
use Rattle.sms_tpdu.specs.declared.deliver_report.DeliverReport.{DeliverReport as DeliverReportOf}
use Rattle.sms_tpdu.specs.declared.status_report.StatusReport.{StatusReport as StatusReportOf}
use Rattle.sms_tpdu.specs.declared.down.Down.{Down}
use Rattle.sms_tpdu.specs.declared.down.Down.TheVariants.{Deliver, StatusReport, SubmitReport}
use Rattle.sms_tpdu.specs.declared.up.Up.{Up}
use Rattle.sms_tpdu.specs.declared.up.Up.TheVariants.{Submit, DeliverReport}
pub use Rattle.sms_tpdu.specs.DeliverWriting.{deliver_fields, deliver_head}

-- ---- DELIVER (9.2.2.1), down in RP-DATA

-- the first octet: bits 0 and 1 are the message type, and bit 4 has no meaning
pub record IsDeliverHead (first : ℕ) (d : DeliverOf) : Type 0 where
  pub message_type : first % 4 ≡ 0
  pub no_more_messages : bit first 4 ≡ d.no_more_messages_to_send
  pub loop_prevention : bit first 8 ≡ d.loop_prevention
  pub status_report : bit first 32 ≡ d.status_report_indication
  pub header : bit first 64 ≡ d.user_data_header_indicator
  pub reply_path : bit first 128 ≡ d.reply_path

abbrev pub IsDeliverData : DeliverOf → Type 0
IsDeliverData d = IsUserData (coding_of d.data_coding_scheme) d.user_data_header_indicator d.user_data

abbrev pub IsDeliver : List ℕ → DeliverOf → Type 0
IsDeliver octets d =
    (first : ℕ) × (from : List ℕ) × (stamp : List ℕ)
    × IsDeliverHead first d × IsAddressField from d.originating_address × IsScts stamp d.service_centre_time_stamp
    × IsDeliverData d × (octets ≡ deliver_fields first from stamp d)

-- the one written list of a DELIVER
abbrev pub IsWrittenDeliver : List ℕ → DeliverOf → Type 0
IsWrittenDeliver octets d =
    (stamp : List ℕ)
    × IsAddress d.originating_address × IsWrittenScts stamp d.service_centre_time_stamp
    × IsDeliverData d × (octets ≡ deliver_fields (deliver_head d) (address_field d.originating_address) stamp d)

-- ---- SUBMIT (9.2.2.2), up in RP-DATA

-- bits 3 and 4: the format of the validity period (9.2.3.3)
abbrev pub validity_format : ValidityPeriod → ℕ
validity_format NotPresent = 0
validity_format (Relative period) = 2
validity_format (Absolute moment) = 3

-- no octet, one octet, or a time stamp (9.2.3.12)
abbrev pub IsValidityField : List ℕ → ValidityPeriod → Type 0
IsValidityField text NotPresent = text ≡ []
IsValidityField text (Relative period) = text ≡ period ∷ []
IsValidityField text (Absolute moment) = IsScts text moment

abbrev pub IsWrittenValidityField : List ℕ → ValidityPeriod → Type 0
IsWrittenValidityField text NotPresent = text ≡ []
IsWrittenValidityField text (Relative period) = text ≡ period ∷ []
IsWrittenValidityField text (Absolute moment) = IsWrittenScts text moment

pub record IsSubmitHead (first : ℕ) (s : SubmitOf) : Type 0 where
  pub message_type : first % 4 ≡ 1
  pub reject_duplicates : bit first 4 ≡ s.reject_duplicates
  pub validity : first / 8 % 4 ≡ validity_format s.validity_period
  pub status_report : bit first 32 ≡ s.status_report_request
  pub header : bit first 64 ≡ s.user_data_header_indicator
  pub reply_path : bit first 128 ≡ s.reply_path

abbrev pub submit_head : SubmitOf → ℕ
submit_head s =
    1 + bit_value s.reject_duplicates 4 + 8 * validity_format s.validity_period + bit_value s.status_report_request 32
    + bit_value s.user_data_header_indicator 64 + bit_value s.reply_path 128

abbrev pub IsSubmitData : SubmitOf → Type 0
IsSubmitData s = IsUserData (coding_of s.data_coding_scheme) s.user_data_header_indicator s.user_data

abbrev pub submit_fields : ℕ → List ℕ → List ℕ → SubmitOf → List ℕ
submit_fields first to period s =
    first ∷ s.message_reference ∷ (to ++ (s.protocol_identifier ∷ s.data_coding_scheme ∷ (period ++ user_data_field s.user_data)))

abbrev pub IsSubmit : List ℕ → SubmitOf → Type 0
IsSubmit octets s =
    (first : ℕ) × (to : List ℕ) × (period : List ℕ)
    × IsSubmitHead first s × IsAddressField to s.destination_address × IsValidityField period s.validity_period
    × IsSubmitData s × (octets ≡ submit_fields first to period s)

abbrev pub IsWrittenSubmit : List ℕ → SubmitOf → Type 0
IsWrittenSubmit octets s =
    (period : List ℕ)
    × IsAddress s.destination_address × IsWrittenValidityField period s.validity_period
    × IsSubmitData s × (octets ≡ submit_fields (submit_head s) (address_field s.destination_address) period s)

-- ---- the parameters of a report (9.2.3.27): bits 0, 1 and 2 of the indicator announce TP-PID, TP-DCS and TP-UDL with
-- TP-UD. Where one of the other bits is set, what follows these fields passes unread.

abbrev pub is_some_octet : Option ℕ → Bool
is_some_octet None = false
is_some_octet (Some octet) = true

abbrev pub is_some_data : Option UserData → Bool
is_some_data None = false
is_some_data (Some text) = true

pub record IsIndicator (indicator : ℕ) (p : Parameters) : Type 0 where
  pub protocol_identifier : bit indicator 1 ≡ is_some_octet p.protocol_identifier
  pub data_coding_scheme : bit indicator 2 ≡ is_some_octet p.data_coding_scheme
  pub user_data : bit indicator 4 ≡ is_some_data p.user_data

-- the written indicator
abbrev pub indicator_of : Parameters → ℕ
indicator_of p =
    bit_value (is_some_octet p.protocol_identifier) 1 + bit_value (is_some_octet p.data_coding_scheme) 2
    + bit_value (is_some_data p.user_data) 4

abbrev pub octet_field : Option ℕ → List ℕ
octet_field None = []
octet_field (Some octet) = octet ∷ []

abbrev pub data_field : Option UserData → List ℕ
data_field None = []
data_field (Some text) = user_data_field text

-- what TP-UDL says; no user data has no length
abbrev pub data_length : Option UserData → ℕ
data_length None = 0
data_length (Some text) = text.length

-- user data is in the default alphabet where no data coding scheme is announced
abbrev pub report_coding : Option ℕ → Coding
report_coding None = Septets
report_coding (Some octet) = coding_of octet

abbrev pub IsOptionalData : Coding → Bool → Option UserData → Type 0
IsOptionalData coding with_header None = Unit {0}
IsOptionalData coding with_header (Some text) = IsUserData coding with_header text

abbrev pub IsReportData : Bool → Parameters → Type 0
IsReportData with_header p = IsOptionalData (report_coding p.data_coding_scheme) with_header p.user_data

abbrev pub parameter_fields : Parameters → List ℕ
parameter_fields p = octet_field p.protocol_identifier ++ (octet_field p.data_coding_scheme ++ data_field p.user_data)

-- what may follow the announced fields: octets only where a bit of 3 to 7 is set
abbrev pub MayFollow : ℕ → List ℕ → Type 0
MayFollow indicator [] = Unit {0}
MayFollow indicator (octet ∷ octets) = 8 ≤ indicator

-- ---- SUBMIT-REPORT (9.2.2.2a), down in RP-ACK or RP-ERROR: the cause only in RP-ERROR

-- A report in RP-ERROR has the cause of failure, and no other has it.
abbrev pub HasCause : Bool → Option ℕ → Type 0
HasCause false cause = cause ≡ None
HasCause true cause = (octet : ℕ) × (cause ≡ Some octet)

abbrev pub submit_report_fields : ℕ → ℕ → List ℕ → SubmitReportOf → List ℕ
submit_report_fields first indicator stamp r =
    first ∷ (octet_field r.failure_cause ++ (indicator ∷ (stamp ++ parameter_fields r.parameters)))

abbrev pub IsSubmitReport : Bool → List ℕ → SubmitReportOf → Type 0
IsSubmitReport in_error octets r =
    (first : ℕ) × (indicator : ℕ) × (stamp : List ℕ) × (unread : List ℕ)
    × (first % 4 ≡ 1) × HasCause in_error r.failure_cause × IsIndicator indicator r.parameters
    × IsScts stamp r.service_centre_time_stamp × IsReportData false r.parameters × MayFollow indicator unread
    × (octets ≡ submit_report_fields first indicator stamp r ++ unread)

abbrev pub IsWrittenSubmitReport : List ℕ → SubmitReportOf → Type 0
IsWrittenSubmitReport octets r =
    (stamp : List ℕ)
    × IsWrittenScts stamp r.service_centre_time_stamp × IsReportData false r.parameters
    × (octets ≡ submit_report_fields 1 (indicator_of r.parameters) stamp r)

-- ---- DELIVER-REPORT (9.2.2.1a), up in RP-ACK or RP-ERROR

abbrev pub deliver_report_fields : ℕ → ℕ → DeliverReportOf → List ℕ
deliver_report_fields first indicator r =
    first ∷ (octet_field r.failure_cause ++ (indicator ∷ parameter_fields r.parameters))

abbrev pub IsDeliverReport : Bool → List ℕ → DeliverReportOf → Type 0
IsDeliverReport in_error octets r =
    (first : ℕ) × (indicator : ℕ) × (unread : List ℕ)
    × (first % 4 ≡ 0) × HasCause in_error r.failure_cause × IsIndicator indicator r.parameters
    × IsReportData false r.parameters × MayFollow indicator unread
    × (octets ≡ deliver_report_fields first indicator r ++ unread)

abbrev pub IsWrittenDeliverReport : List ℕ → DeliverReportOf → Type 0
IsWrittenDeliverReport octets r =
    IsReportData false r.parameters × (octets ≡ deliver_report_fields 0 (indicator_of r.parameters) r)

-- ---- STATUS-REPORT (9.2.2.3), down in RP-DATA: the parameters may be left out with their indicator

pub record IsStatusReportHead (first : ℕ) (r : StatusReportOf) : Type 0 where
  pub message_type : first % 4 ≡ 2
  pub no_more_messages : bit first 4 ≡ r.no_more_messages_to_send
  pub qualifier : bit first 32 ≡ r.status_report_qualifier
  pub header : bit first 64 ≡ r.user_data_header_indicator

abbrev pub status_report_head : StatusReportOf → ℕ
status_report_head r =
    2 + bit_value r.no_more_messages_to_send 4 + bit_value r.status_report_qualifier 32
    + bit_value r.user_data_header_indicator 64

abbrev pub no_parameters : Parameters
no_parameters = record { protocol_identifier = None; data_coding_scheme = None; user_data = None }

abbrev pub IsStatusTail : Bool → List ℕ → Parameters → Type 0
IsStatusTail with_header [] p = p ≡ no_parameters
IsStatusTail with_header (indicator ∷ fields) p =
    (unread : List ℕ)
    × IsIndicator indicator p × IsReportData with_header p × MayFollow indicator unread
    × (fields ≡ parameter_fields p ++ unread)

-- without parameters no indicator is written
abbrev pub status_tail : Parameters → List ℕ
status_tail p = if indicator_of p == 0 then [] else indicator_of p ∷ parameter_fields p

abbrev pub status_report_fields : ℕ → List ℕ → List ℕ → List ℕ → StatusReportOf → List ℕ
status_report_fields first to stamp discharge r =
    first ∷ r.message_reference ∷ (to ++ (stamp ++ (discharge ++ (r.status ∷ []))))

abbrev pub IsStatusReport : List ℕ → StatusReportOf → Type 0
IsStatusReport octets r =
    (first : ℕ) × (to : List ℕ) × (stamp : List ℕ) × (discharge : List ℕ) × (tail : List ℕ)
    × IsStatusReportHead first r × IsAddressField to r.recipient_address
    × IsScts stamp r.service_centre_time_stamp × IsScts discharge r.discharge_time
    × IsStatusTail r.user_data_header_indicator tail r.parameters
    × (octets ≡ status_report_fields first to stamp discharge r ++ tail)

abbrev pub IsWrittenStatusReport : List ℕ → StatusReportOf → Type 0
IsWrittenStatusReport octets r =
    (stamp : List ℕ) × (discharge : List ℕ)
    × IsAddress r.recipient_address
    × IsWrittenScts stamp r.service_centre_time_stamp × IsWrittenScts discharge r.discharge_time
    × IsReportData r.user_data_header_indicator r.parameters
    × (octets ≡ status_report_fields (status_report_head r) (address_field r.recipient_address) stamp discharge r ++ status_tail r.parameters)

-- the same report where the parameters were left out
abbrev pub without_parameters : StatusReportOf → StatusReportOf
without_parameters r = record r { parameters = no_parameters }

-- ---- by carrier: down from the service centre, up from the handset

abbrev pub IsDown : Carrier → List ℕ → Down → Type 0
IsDown InData octets (Deliver d) = IsDeliver octets d
IsDown InData octets (StatusReport r) = IsStatusReport octets r
IsDown InData octets (SubmitReport r) = ⊥
IsDown InAck octets (Deliver d) = ⊥
IsDown InAck octets (StatusReport r) = ⊥
IsDown InAck octets (SubmitReport r) = IsSubmitReport false octets r
IsDown InError octets (Deliver d) = ⊥
IsDown InError octets (StatusReport r) = ⊥
IsDown InError octets (SubmitReport r) = IsSubmitReport true octets r

abbrev pub IsUp : Carrier → List ℕ → Up → Type 0
IsUp InData octets (Submit s) = IsSubmit octets s
IsUp InData octets (DeliverReport r) = ⊥
IsUp InAck octets (Submit s) = ⊥
IsUp InAck octets (DeliverReport r) = IsDeliverReport false octets r
IsUp InError octets (Submit s) = ⊥
IsUp InError octets (DeliverReport r) = IsDeliverReport true octets r

-- ---- as they are written

abbrev pub IsWrittenDown : Carrier → List ℕ → Down → Type 0
IsWrittenDown InData octets (Deliver d) = IsWrittenDeliver octets d
IsWrittenDown InData octets (StatusReport r) = IsWrittenStatusReport octets r
IsWrittenDown InData octets (SubmitReport r) = ⊥
IsWrittenDown InAck octets (Deliver d) = ⊥
IsWrittenDown InAck octets (StatusReport r) = ⊥
IsWrittenDown InAck octets (SubmitReport r) = HasCause false r.failure_cause × IsWrittenSubmitReport octets r
IsWrittenDown InError octets (Deliver d) = ⊥
IsWrittenDown InError octets (StatusReport r) = ⊥
IsWrittenDown InError octets (SubmitReport r) = HasCause true r.failure_cause × IsWrittenSubmitReport octets r

abbrev pub IsWrittenUp : Carrier → List ℕ → Up → Type 0
IsWrittenUp InData octets (Submit s) = IsWrittenSubmit octets s
IsWrittenUp InData octets (DeliverReport r) = ⊥
IsWrittenUp InAck octets (Submit s) = ⊥
IsWrittenUp InAck octets (DeliverReport r) = HasCause false r.failure_cause × IsWrittenDeliverReport octets r
IsWrittenUp InError octets (Submit s) = ⊥
IsWrittenUp InError octets (DeliverReport r) = HasCause true r.failure_cause × IsWrittenDeliverReport octets r

-- what was read, or made so, that it can be written
abbrev pub IsWritableDown : Down → Type 0
IsWritableDown (Deliver d) = IsAddress d.originating_address × IsDeliverData d
IsWritableDown (StatusReport r) = IsAddress r.recipient_address × IsReportData r.user_data_header_indicator r.parameters
IsWritableDown (SubmitReport r) = IsReportData false r.parameters

abbrev pub IsWritableUp : Up → Type 0
IsWritableUp (Submit s) = IsAddress s.destination_address × IsSubmitData s
IsWritableUp (DeliverReport r) = IsReportData false r.parameters

-- the written list of a TPDU, whatever carries it
abbrev pub IsDownWritten : List ℕ → Down → Type 0
IsDownWritten octets (Deliver d) = IsWrittenDeliver octets d
IsDownWritten octets (StatusReport r) = IsWrittenStatusReport octets r
IsDownWritten octets (SubmitReport r) = IsWrittenSubmitReport octets r

abbrev pub IsUpWritten : List ℕ → Up → Type 0
IsUpWritten octets (Submit s) = IsWrittenSubmit octets s
IsUpWritten octets (DeliverReport r) = IsWrittenDeliverReport octets r
