-- What is submitted, and the TPDUs that are made of it. A message is sent to a handset, in one part or in several. It is from an
-- application (SMPP v3.4 4.4, submit_sm) or from a handset (3GPP TS 23.040 9.2.2.2, SUBMIT).
use Rattle.std.specs.Prelude.{◌≡◌, ℕ, zero, suc, List, Bool, Option, Some, None, slice_get, Ok}
use Rattle.sms_base.specs.declared.address.Address.{Address}
use Rattle.sms_base.specs.declared.final_state.FinalState.{FinalState}
use Rattle.sms_base.specs.declared.final_state.FinalState.TheVariants.{Delivered, Expired, Deleted, Undeliverable}
use Rattle.sms_tpdu.specs.declared.user_data.UserData.{UserData}
use Rattle.sms_tpdu.specs.declared.carrier.Carrier.TheVariants.{InData}
use Rattle.sms_tpdu.specs.declared.deliver.Deliver.{Deliver as DeliverOf}
use Rattle.sms_tpdu.specs.declared.down.Down.TheVariants.{Deliver, StatusReport}
use Rattle.sms_tpdu.specs.declared.status_report.StatusReport.{StatusReport as StatusReportOf}
use Rattle.sms_tpdu.specs.declared.submit.Submit.{Submit as SubmitOf}
use Rattle.sms_tpdu.specs.declared.up.Up.TheVariants.{Submit}
use Rattle.sms_tpdu.specs.TpduReading.{down_at, up_at}

-- ---- what is submitted

-- for which final states a receipt is asked (SMPP v3.4 5.2.17, registered_delivery; 3GPP TS 23.040 9.2.3.5, TP-SRR)
pub data Wish : Type 0 where
  Never : Wish
  Failures : Wish
  Always : Wish

abbrev pub IsWished : Wish → FinalState → Type 0
IsWished Never f = ⊥
IsWished Always f = Unit {0}
IsWished Failures Delivered = ⊥
IsWished Failures Expired = Unit {0}
IsWished Failures Deleted = Unit {0}
IsWished Failures Undeliverable = Unit {0}

-- what the DELIVER of each part says of the message, and what the centre does with it
pub record Submission : Type 0 where
  pub id : ℕ
  pub source : Address
  -- the digits of its destination, which name a handset
  pub handset : List ℕ
  pub protocol_identifier : ℕ
  pub data_coding_scheme : ℕ
  pub reply_path : Bool
  pub user_data_header_indicator : Bool
  -- the second from which on it may expire
  pub limit : ℕ
  pub wish : Wish
  -- the receipt is a status report to the source, a handset
  pub by_report : Bool
  -- the user data of each part
  pub parts : List UserData

-- the part of that number, from 1 on
abbrev pub part_at : ℕ → List UserData → Option UserData
part_at zero parts = None
part_at (suc n) parts = slice_get parts n

abbrev pub HasPart : Submission → ℕ → UserData → Type 0
HasPart s n part = part_at n s.parts ≡ Some part

-- ---- whose TPDU octets are: by what they are read as (3GPP TS 23.040 9.2.2), never by how they are written

-- A DELIVER (3GPP TS 23.040 9.2.2.1) of that part, with that time stamp. What else a DELIVER says (TP-MMS, TP-SRI) is the centre's own.
pub record IsDeliverOf (s : Submission) (part : UserData) (moment : ℕ) (tpdu : List ℕ) : Type 0 where
  pub deliver : DeliverOf
  pub reads : down_at InData tpdu ≡ Ok (Deliver deliver)
  pub time_stamp : deliver.service_centre_time_stamp ≡ moment
  pub source : deliver.originating_address ≡ s.source
  pub protocol_identifier : deliver.protocol_identifier ≡ s.protocol_identifier
  pub data_coding_scheme : deliver.data_coding_scheme ≡ s.data_coding_scheme
  pub reply_path : deliver.reply_path ≡ s.reply_path
  pub header_indicator : deliver.user_data_header_indicator ≡ s.user_data_header_indicator
  pub user_data : deliver.user_data ≡ part

-- TP-ST of a report (3GPP TS 23.040 9.2.3.15)
abbrev pub status_of : FinalState → ℕ
status_of Delivered = 0
status_of Expired = 70
status_of Deleted = 72
status_of Undeliverable = 64

-- a STATUS-REPORT (9.2.2.3) of that state about a message to that handset
pub record IsReportOf (s : Submission) (f : FinalState) (tpdu : List ℕ) : Type 0 where
  pub report : StatusReportOf
  pub reads : down_at InData tpdu ≡ Ok (StatusReport report)
  pub status : report.status ≡ status_of f
  pub recipient : report.recipient_address.digits ≡ s.handset

-- a SUBMIT (9.2.2.2) with this destination and user data
pub record IsSubmitTo (destination : Address) (user_data : UserData) (tpdu : List ℕ) : Type 0 where
  pub submit : SubmitOf
  pub reads : up_at InData tpdu ≡ Ok (Submit submit)
  pub destination_is : submit.destination_address ≡ destination
  pub user_data_is : submit.user_data ≡ user_data
