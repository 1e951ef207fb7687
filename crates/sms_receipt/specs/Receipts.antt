-- The deliver_sm of a receipt (SMPP v3.4 4.6.1, 5.2.28).
use Rattle.std.specs.Prelude.{ℕ, nat_lt, List, [], ◌∷◌, ◌++◌, map, Option, Some, None, if◌then◌else◌}
use Rattle.sms_base.specs.AddressKind.{type_number}
use Rattle.sms_base.specs.HandsetNumber.{own_address}
use Rattle.sms_base.specs.MessageId.{id_text}
use Rattle.sms_base.specs.declared.address.Address.{Address}
use Rattle.sms_base.specs.declared.final_state.FinalState.{FinalState}
use Rattle.sms_base.specs.declared.final_state.FinalState.TheVariants.{Delivered, Expired, Deleted, Undeliverable}
use Rattle.smpp_pdu.specs.declared.address.SmeAddress.{SmeAddress}
use Rattle.smpp_pdu.specs.declared.message.Message.{Message}
use Rattle.sms_receipt.specs.declared.final_message.Final.{Final}
use Rattle.sms_receipt.specs.ReceiptText.{receipt_text}

-- message_state
abbrev pub message_state : FinalState → ℕ
message_state Delivered = 2
message_state Expired = 3
message_state Deleted = 4
message_state Undeliverable = 5

-- message_state; 1 is a message that has not ended (SMPP v3.4 5.2.28)
abbrev pub state_number : Option FinalState → ℕ
state_number None = 1
state_number (Some state) = message_state state

-- addresses of applications and handsets are ASCII; a question mark replaces what is not
abbrev pub ascii_octet : ℕ → ℕ
ascii_octet character = if nat_lt character 128 then character else 63

abbrev pub entity : Address → SmeAddress
entity a = record { ton = type_number a.ton; npi = a.npi; addr = map ascii_octet a.digits }

-- from the message's destination to its source, with that text, receipted_message_id and message_state
abbrev pub receipt_with : SmeAddress → SmeAddress → List ℕ → List ℕ → List ℕ → Message
receipt_with source destination text id state = record {
  service_type = [];
  source = source;
  destination = destination;
  esm_class = 4;
  protocol_id = 0;
  priority_flag = 0;
  schedule_delivery_time = [];
  validity_period = [];
  registered_delivery = 0;
  replace_if_present_flag = 0;
  data_coding = 0;
  sm_default_msg_id = 0;
  short_message = text;
  tlvs = record {
    sar_msg_ref_num = None;
    sar_total_segments = None;
    sar_segment_seqnum = None;
    message_payload = None;
    receipted_message_id = Some id;
    message_state = Some state;
  };
}

abbrev pub receipt_of : Final → Message
receipt_of f =
    receipt_with (entity (own_address f.handset)) (entity f.source) (receipt_text f) (id_text f.id ++ 0 ∷ []) (message_state f.state ∷ [])
