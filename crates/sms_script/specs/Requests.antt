-- Requests as PDUs: the source is the account's, numbers are international ones of the telephone numbering plan.
use Rattle.std.specs.Prelude.{ℕ, nat_le, List, [], length, Bool, if◌then◌else◌, Option, Some, None}
use Rattle.smpp_pdu.specs.declared.address.SmeAddress.{SmeAddress}
use Rattle.smpp_pdu.specs.declared.cancel.CancelSm.{CancelSm}
use Rattle.smpp_pdu.specs.declared.message.Message.{Message}
use Rattle.smpp_pdu.specs.declared.query.QuerySm.{QuerySm}
use Rattle.sms_script.specs.declared.event.Submission.{Submission}

abbrev pub nobody : SmeAddress
nobody = record { ton = 0; npi = 0; addr = [] }

-- SMPP v3.4 4.4.1: up to 254 octets are in short_message, longer ones in message_payload
abbrev pub fits_short_message : List ℕ → Bool
fits_short_message octets = nat_le (length octets) 254

abbrev pub short_message_of : List ℕ → List ℕ
short_message_of octets = if fits_short_message octets then octets else []

abbrev pub payload_of : List ℕ → Option (List ℕ)
payload_of octets = if fits_short_message octets then None else Some octets

abbrev pub submit_of : Submission → Message
submit_of s = record {
  service_type = [];
  source = nobody;
  destination = record { ton = 1; npi = 1; addr = s.to };
  esm_class = s.esm_class;
  protocol_id = 0;
  priority_flag = s.priority;
  schedule_delivery_time = [];
  validity_period = s.validity;
  registered_delivery = s.registered_delivery;
  replace_if_present_flag = 0;
  data_coding = s.coding;
  sm_default_msg_id = 0;
  short_message = short_message_of s.message;
  tlvs = record {
    sar_msg_ref_num = None;
    sar_total_segments = None;
    sar_segment_seqnum = None;
    message_payload = payload_of s.message;
    receipted_message_id = None;
    message_state = None;
  };
}

abbrev pub query_of : List ℕ → QuerySm
query_of id = record { message_id = id; source = nobody }

abbrev pub cancel_of : List ℕ → CancelSm
cancel_of id = record { service_type = []; message_id = id; source = nobody; destination = nobody }
