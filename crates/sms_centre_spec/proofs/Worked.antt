-- Words for worked runs: hexadecimal, the script's head, requests as scripts write them, and what came of an event.
use Rattle.std.proofs.Common.{ℕ, ◌+◌, ◌-◌, ◌*◌, nat_lt, List, [], ◌∷◌, true, if◌then◌else◌, Option, None}
use Rattle.std.specs.Prelude.{codes}
use Rattle.sms_base.specs.declared.holder.Holder.TheVariants.{Entry}
use Rattle.sms_base.specs.declared.final_state.FinalState.{FinalState}
use Rattle.smpp_pdu.specs.declared.address.SmeAddress.{SmeAddress}
use Rattle.smpp_pdu.specs.declared.message.Message.{Message}
use Rattle.smpp_pdu.specs.declared.cancel.CancelSm.{CancelSm}
use Rattle.smpp_pdu.specs.declared.query.QuerySm.{QuerySm}
use Rattle.sms_centre_rows.specs.declared.messages.message.MessageRow.{MessageRow}
use Rattle.sms_base.specs.declared.originator.Originator.TheVariants.{Handset}
use Rattle.sms_base.specs.declared.wish.Wish.TheVariants.{Nothing}
use Rattle.sms_centre_rows.specs.declared.messages.part.PartRow.{PartRow}
use Rattle.sms_centre_rows.specs.declared.waiting.handset_link.Sent.{Sent}
use Rattle.sms_centre_rows.specs.declared.reports.report.ReportRow.{ReportRow}
use Rattle.sms_centre_spec.specs.declared.rows.Rows.{Rows}
use Rattle.sms_centre_spec.specs.declared.setup.Setup.{Setup}
use Rattle.sms_base.specs.HandsetNumber.{own_address}
use Rattle.sms_centre_rows.specs.reports.Receipts.{Session}
use Rattle.sms_centre_spec.specs.Draft.{Core, Draft, messages_in, reports_in}
use Rattle.sms_centre_spec.specs.CentreEvent.{started, frame_received}

-- ---- hexadecimal

abbrev pub half : ℕ → ℕ
half c = if nat_lt c 58 then c - 48 else c - 55

abbrev pub hex : List ℕ → List ℕ
hex [] = []
hex (a ∷ []) = []
hex (a ∷ b ∷ rest) = (16 * half a + half b) ∷ hex rest

-- ---- the head

-- 2024-02-29 23:59:58
abbrev pub t0 : ℕ
t0 = 1709251198

abbrev pub centre_number : List ℕ
centre_number = codes "447700900000"

abbrev pub app1 : List ℕ
app1 = codes "447700900001"

abbrev pub handset_a : List ℕ
handset_a = codes "447700900123"

abbrev pub handset_b : List ℕ
handset_b = codes "447700900456"

abbrev pub setup : Setup
setup = record { centre = own_address centre_number; start = t0; first = 1; accounts = record { name = codes "app1"; address = own_address app1; sources = [] } ∷ [] }

abbrev pub no_rows : Rows
no_rows = record { messages = []; parts = []; references = []; handsets = []; reports = []; priorities = []; bars = []; setup = setup }

-- app1 is bound as a transceiver
abbrev pub session_one : Session
session_one = record { number = 1; account = codes "app1"; receives = true; unanswered = [] }

abbrev pub begun : List (List ℕ) → Core
begun handsets = started no_rows handsets (session_one ∷ [])

-- ---- events

abbrev pub nobody : SmeAddress
nobody = record { ton = 0; npi = 0; addr = [] }

abbrev pub to_number : List ℕ → SmeAddress
to_number digits = record { ton = 1; npi = 1; addr = digits }

abbrev pub sm : List ℕ → ℕ → ℕ → ℕ → List ℕ → List ℕ → ℕ → Message
sm to coding esm_class registered validity text priority = record {
  service_type = [];
  source = nobody;
  destination = to_number to;
  esm_class = esm_class;
  protocol_id = 0;
  priority_flag = priority;
  schedule_delivery_time = [];
  validity_period = validity;
  registered_delivery = registered;
  replace_if_present_flag = 0;
  data_coding = coding;
  sm_default_msg_id = 0;
  short_message = text;
  tlvs = record {
    sar_msg_ref_num = None;
    sar_total_segments = None;
    sar_segment_seqnum = None;
    message_payload = None;
    receipted_message_id = None;
    message_state = None;
  };
}

abbrev pub hello_to : List ℕ → Message
hello_to to = sm to 0 0 1 [] (codes "hello") 0

-- a frame of a handset that carries what nobody asks for here
abbrev pub comes : List ℕ → List ℕ → Core → Draft
comes handset octets c = frame_received handset octets (Entry 0) c

abbrev pub cancel_of : List ℕ → CancelSm
cancel_of id = record { service_type = []; message_id = id; source = nobody; destination = nobody }

-- ---- what came of it

abbrev pub octets_in : List Sent → List (List ℕ)
octets_in [] = []
octets_in (s ∷ ss) = s.frame.octets ∷ octets_in ss

abbrev pub sent : Draft → List (List ℕ)
sent d = octets_in d.links.frames

abbrev pub states_in : List MessageRow → List (Option FinalState)
states_in [] = []
states_in (m ∷ ms) = m.state ∷ states_in ms

abbrev pub states : Draft → List (Option FinalState)
states d = states_in (messages_in d.store)

abbrev pub told_in : List ReportRow → List ℕ
told_in [] = []
told_in (r ∷ rs) = r.id ∷ told_in rs

-- the messages of which a receipt or a status report was made, in order
abbrev pub told : Draft → List ℕ
told d = told_in (reports_in d.store)

abbrev pub query_of : List ℕ → QuerySm
query_of id = record { message_id = id; source = nobody }

abbrev pub splits_in : List MessageRow → List (Option ℕ)
splits_in [] = []
splits_in (m ∷ ms) = m.split_reference ∷ splits_in ms

abbrev pub splits_of : Rows → List (Option ℕ)
splits_of rows = splits_in rows.messages

-- the first message
abbrev pub no_message : MessageRow
no_message = record {
  id = 0;
  originator = Handset 0;
  source = own_address [];
  handset = [];
  data_coding_scheme = 0;
  protocol_identifier = 0;
  wish = Nothing;
  submitted = 0;
  limit = 0;
  split_reference = None;
  state = None;
  done = None;
}

abbrev pub first_of : List MessageRow → MessageRow
first_of [] = no_message
first_of (m ∷ ms) = m

abbrev pub row_of : Rows → MessageRow
row_of rows = first_of rows.messages

abbrev pub attempts_in : List PartRow → List ℕ
attempts_in [] = []
attempts_in (p ∷ ps) = p.progress.attempts ∷ attempts_in ps

abbrev pub attempts_of : Rows → List ℕ
attempts_of rows = attempts_in rows.parts

abbrev pub references_in : List PartRow → List ℕ
references_in [] = []
references_in (p ∷ ps) = p.reference ∷ references_in ps

-- the references of all parts
abbrev pub references_of : Rows → List ℕ
references_of rows = references_in rows.parts
