-- Known PDUs, computed on the definitions.
use Rattle.std.proofs.Common.{◌≡◌, ℕ, [], ◌∷◌, Some, Ok, Err, refl}
use Rattle.smpp_pdu.specs.declared.fault.PduFault.TheVariants.{Truncated, BadLength, UnknownCommand, NoTerminator, BadTlv, FieldTooLong, ShortMessageTooLong}
use Rattle.smpp_pdu.specs.declared.bind.Bind.{Bind}
use Rattle.smpp_pdu.specs.declared.message.Message.{Message}
use Rattle.smpp_pdu.specs.declared.address.SmeAddress.{SmeAddress}
use Rattle.smpp_pdu.specs.declared.body.Body.{Body}
use Rattle.smpp_pdu.specs.declared.body.Body.TheVariants.{BindTransceiver, BindTransceiverResp, SubmitSm, SubmitSmResp, EnquireLink, EnquireLinkResp}
use Rattle.smpp_pdu.specs.declared.pdu.Pdu.{Pdu}
use Rattle.smpp_pdu.specs.Commands.{command_of}
use Rattle.smpp_pdu.specs.FieldReading.{two_in, four_in}
use Rattle.smpp_pdu.specs.Tlvs.{no_tlvs}
use Rattle.smpp_pdu.specs.PduReading.{body_at, body_in, pdu_at}
use Rattle.smpp_pdu.specs.Writing.{written}

abbrev plain : ℕ → Body → Pdu
plain number body = record { command_status = 0; sequence_number = number; body = body }

enquire_link_read : pdu_at (0 ∷ 0 ∷ 0 ∷ 16 ∷ 0 ∷ 0 ∷ 0 ∷ 21 ∷ 0 ∷ 0 ∷ 0 ∷ 0 ∷ 0 ∷ 0 ∷ 0 ∷ 1 ∷ []) ≡ Ok (plain 1 EnquireLink)
unfolding pdu_at four_in two_in body_in body_at command_of Rattle.smpp_pdu.specs.BodyReading.bind_at Rattle.smpp_pdu.specs.BodyReading.message_at Rattle.smpp_pdu.specs.BodyReading.address_in Rattle.smpp_pdu.specs.FieldReading.c_string_in Rattle.smpp_pdu.specs.FieldReading.text_in Rattle.smpp_pdu.specs.FieldReading.time_in Rattle.smpp_pdu.specs.FieldReading.short_message_in Rattle.smpp_pdu.specs.TlvReading.tlvs_at Rattle.smpp_pdu.specs.TlvReading.parameters_in Rattle.smpp_pdu.specs.TlvReading.tlv_in Rattle.sms_base.specs.Reading.run_in
enquire_link_read = refl

enquire_link_answered : written (plain 1 EnquireLinkResp) ≡ 0 ∷ 0 ∷ 0 ∷ 16 ∷ 128 ∷ 0 ∷ 0 ∷ 21 ∷ 0 ∷ 0 ∷ 0 ∷ 0 ∷ 0 ∷ 0 ∷ 0 ∷ 1 ∷ []
enquire_link_answered = refl

length_of_fifteen : pdu_at (0 ∷ 0 ∷ 0 ∷ 15 ∷ 0 ∷ 0 ∷ 0 ∷ 21 ∷ 0 ∷ 0 ∷ 0 ∷ 0 ∷ 0 ∷ 0 ∷ 0 ∷ 2 ∷ []) ≡ Err BadLength
unfolding pdu_at four_in two_in body_in body_at command_of Rattle.smpp_pdu.specs.BodyReading.bind_at Rattle.smpp_pdu.specs.BodyReading.message_at Rattle.smpp_pdu.specs.BodyReading.address_in Rattle.smpp_pdu.specs.FieldReading.c_string_in Rattle.smpp_pdu.specs.FieldReading.text_in Rattle.smpp_pdu.specs.FieldReading.time_in Rattle.smpp_pdu.specs.FieldReading.short_message_in Rattle.smpp_pdu.specs.TlvReading.tlvs_at Rattle.smpp_pdu.specs.TlvReading.parameters_in Rattle.smpp_pdu.specs.TlvReading.tlv_in Rattle.sms_base.specs.Reading.run_in
length_of_fifteen = refl

bound : Bind
bound = record { system_id = 97 ∷ 112 ∷ 112 ∷ 49 ∷ []; password = 115 ∷ 101 ∷ 99 ∷ 114 ∷ 101 ∷ 116 ∷ []; system_type = []; interface_version = 52; addr_ton = 0; addr_npi = 0; address_range = [] }

bind_read : pdu_at (0 ∷ 0 ∷ 0 ∷ 33 ∷ 0 ∷ 0 ∷ 0 ∷ 9 ∷ 0 ∷ 0 ∷ 0 ∷ 0 ∷ 0 ∷ 0 ∷ 0 ∷ 1 ∷ 97 ∷ 112 ∷ 112 ∷ 49 ∷ 0 ∷ 115 ∷ 101 ∷ 99 ∷ 114 ∷ 101 ∷ 116 ∷ 0 ∷ 0 ∷ 52 ∷ 0 ∷ 0 ∷ 0 ∷ []) ≡ Ok (plain 1 (BindTransceiver bound))
unfolding pdu_at four_in two_in body_in body_at command_of bound Rattle.smpp_pdu.specs.BodyReading.bind_at Rattle.smpp_pdu.specs.BodyReading.message_at Rattle.smpp_pdu.specs.BodyReading.address_in Rattle.smpp_pdu.specs.FieldReading.c_string_in Rattle.smpp_pdu.specs.FieldReading.text_in Rattle.smpp_pdu.specs.FieldReading.time_in Rattle.smpp_pdu.specs.FieldReading.short_message_in Rattle.smpp_pdu.specs.TlvReading.tlvs_at Rattle.smpp_pdu.specs.TlvReading.parameters_in Rattle.smpp_pdu.specs.TlvReading.tlv_in Rattle.sms_base.specs.Reading.run_in
bind_read = refl

bind_answered : written (plain 1 (BindTransceiverResp (Some (record { system_id = 115 ∷ 109 ∷ 115 ∷ 99 ∷ []; tlvs = no_tlvs })))) ≡ 0 ∷ 0 ∷ 0 ∷ 21 ∷ 128 ∷ 0 ∷ 0 ∷ 9 ∷ 0 ∷ 0 ∷ 0 ∷ 0 ∷ 0 ∷ 0 ∷ 0 ∷ 1 ∷ 115 ∷ 109 ∷ 115 ∷ 99 ∷ 0 ∷ []
bind_answered = refl

nobody : SmeAddress
nobody = record { ton = 0; npi = 0; addr = [] }

someone : SmeAddress
someone = record { ton = 1; npi = 1; addr = 52 ∷ 52 ∷ 55 ∷ 55 ∷ 48 ∷ 48 ∷ 57 ∷ 48 ∷ 48 ∷ 52 ∷ 53 ∷ 54 ∷ [] }

hello : Message
hello = record {
  service_type = [];
  source = nobody;
  destination = someone;
  esm_class = 0;
  protocol_id = 0;
  priority_flag = 0;
  schedule_delivery_time = [];
  validity_period = [];
  registered_delivery = 1;
  replace_if_present_flag = 0;
  data_coding = 0;
  sm_default_msg_id = 0;
  short_message = 104 ∷ 101 ∷ 108 ∷ 108 ∷ 111 ∷ [];
  tlvs = no_tlvs;
}

submit_read : pdu_at (0 ∷ 0 ∷ 0 ∷ 50 ∷ 0 ∷ 0 ∷ 0 ∷ 4 ∷ 0 ∷ 0 ∷ 0 ∷ 0 ∷ 0 ∷ 0 ∷ 0 ∷ 2 ∷ 0 ∷ 0 ∷ 0 ∷ 0 ∷ 1 ∷ 1 ∷ 52 ∷ 52 ∷ 55 ∷ 55 ∷ 48 ∷ 48 ∷ 57 ∷ 48 ∷ 48 ∷ 52 ∷ 53 ∷ 54 ∷ 0 ∷ 0 ∷ 0 ∷ 0 ∷ 0 ∷ 0 ∷ 1 ∷ 0 ∷ 0 ∷ 0 ∷ 5 ∷ 104 ∷ 101 ∷ 108 ∷ 108 ∷ 111 ∷ []) ≡ Ok (plain 2 (SubmitSm hello))
unfolding pdu_at four_in two_in body_in body_at command_of hello nobody someone Rattle.smpp_pdu.specs.BodyReading.bind_at Rattle.smpp_pdu.specs.BodyReading.message_at Rattle.smpp_pdu.specs.BodyReading.address_in Rattle.smpp_pdu.specs.FieldReading.c_string_in Rattle.smpp_pdu.specs.FieldReading.text_in Rattle.smpp_pdu.specs.FieldReading.time_in Rattle.smpp_pdu.specs.FieldReading.short_message_in Rattle.smpp_pdu.specs.TlvReading.tlvs_at Rattle.smpp_pdu.specs.TlvReading.parameters_in Rattle.smpp_pdu.specs.TlvReading.tlv_in Rattle.sms_base.specs.Reading.run_in
submit_read = refl

submit_answered : written (plain 2 (SubmitSmResp (Some (record { message_id = 48 ∷ 48 ∷ 48 ∷ 48 ∷ 48 ∷ 48 ∷ 48 ∷ 48 ∷ 48 ∷ 49 ∷ [] })))) ≡ 0 ∷ 0 ∷ 0 ∷ 27 ∷ 128 ∷ 0 ∷ 0 ∷ 4 ∷ 0 ∷ 0 ∷ 0 ∷ 0 ∷ 0 ∷ 0 ∷ 0 ∷ 2 ∷ 48 ∷ 48 ∷ 48 ∷ 48 ∷ 48 ∷ 48 ∷ 48 ∷ 48 ∷ 48 ∷ 49 ∷ 0 ∷ []
submit_answered = refl

-- ---- the first fault from the left

header_cut : pdu_at (0 ∷ 0 ∷ 0 ∷ 16 ∷ 0 ∷ 0 ∷ 0 ∷ []) ≡ Err Truncated
unfolding pdu_at four_in two_in body_in body_at command_of Rattle.smpp_pdu.specs.BodyReading.bind_at Rattle.smpp_pdu.specs.BodyReading.message_at Rattle.smpp_pdu.specs.BodyReading.address_in Rattle.smpp_pdu.specs.FieldReading.c_string_in Rattle.smpp_pdu.specs.FieldReading.text_in Rattle.smpp_pdu.specs.FieldReading.time_in Rattle.smpp_pdu.specs.FieldReading.short_message_in Rattle.smpp_pdu.specs.TlvReading.tlvs_at Rattle.smpp_pdu.specs.TlvReading.parameters_in Rattle.smpp_pdu.specs.TlvReading.tlv_in Rattle.sms_base.specs.Reading.run_in
header_cut = refl

command_seven : pdu_at (0 ∷ 0 ∷ 0 ∷ 16 ∷ 0 ∷ 0 ∷ 0 ∷ 7 ∷ 0 ∷ 0 ∷ 0 ∷ 0 ∷ []) ≡ Err UnknownCommand
unfolding pdu_at four_in two_in body_in body_at command_of Rattle.smpp_pdu.specs.BodyReading.bind_at Rattle.smpp_pdu.specs.BodyReading.message_at Rattle.smpp_pdu.specs.BodyReading.address_in Rattle.smpp_pdu.specs.FieldReading.c_string_in Rattle.smpp_pdu.specs.FieldReading.text_in Rattle.smpp_pdu.specs.FieldReading.time_in Rattle.smpp_pdu.specs.FieldReading.short_message_in Rattle.smpp_pdu.specs.TlvReading.tlvs_at Rattle.smpp_pdu.specs.TlvReading.parameters_in Rattle.smpp_pdu.specs.TlvReading.tlv_in Rattle.sms_base.specs.Reading.run_in
command_seven = refl

octet_left_over : pdu_at (0 ∷ 0 ∷ 0 ∷ 17 ∷ 0 ∷ 0 ∷ 0 ∷ 21 ∷ 0 ∷ 0 ∷ 0 ∷ 0 ∷ 0 ∷ 0 ∷ 0 ∷ 1 ∷ 0 ∷ []) ≡ Err BadLength
unfolding pdu_at four_in two_in body_in body_at command_of Rattle.smpp_pdu.specs.BodyReading.bind_at Rattle.smpp_pdu.specs.BodyReading.message_at Rattle.smpp_pdu.specs.BodyReading.address_in Rattle.smpp_pdu.specs.FieldReading.c_string_in Rattle.smpp_pdu.specs.FieldReading.text_in Rattle.smpp_pdu.specs.FieldReading.time_in Rattle.smpp_pdu.specs.FieldReading.short_message_in Rattle.smpp_pdu.specs.TlvReading.tlvs_at Rattle.smpp_pdu.specs.TlvReading.parameters_in Rattle.smpp_pdu.specs.TlvReading.tlv_in Rattle.sms_base.specs.Reading.run_in
octet_left_over = refl

longer_than_its_length : pdu_at (0 ∷ 0 ∷ 0 ∷ 16 ∷ 0 ∷ 0 ∷ 0 ∷ 21 ∷ 0 ∷ 0 ∷ 0 ∷ 0 ∷ 0 ∷ 0 ∷ 0 ∷ 1 ∷ 0 ∷ []) ≡ Err BadLength
unfolding pdu_at four_in two_in body_in body_at command_of Rattle.smpp_pdu.specs.BodyReading.bind_at Rattle.smpp_pdu.specs.BodyReading.message_at Rattle.smpp_pdu.specs.BodyReading.address_in Rattle.smpp_pdu.specs.FieldReading.c_string_in Rattle.smpp_pdu.specs.FieldReading.text_in Rattle.smpp_pdu.specs.FieldReading.time_in Rattle.smpp_pdu.specs.FieldReading.short_message_in Rattle.smpp_pdu.specs.TlvReading.tlvs_at Rattle.smpp_pdu.specs.TlvReading.parameters_in Rattle.smpp_pdu.specs.TlvReading.tlv_in Rattle.sms_base.specs.Reading.run_in
longer_than_its_length = refl

cut_in_a_string : pdu_at (0 ∷ 0 ∷ 0 ∷ 33 ∷ 0 ∷ 0 ∷ 0 ∷ 9 ∷ 0 ∷ 0 ∷ 0 ∷ 0 ∷ 0 ∷ 0 ∷ 0 ∷ 1 ∷ 97 ∷ 112 ∷ 112 ∷ []) ≡ Err Truncated
unfolding pdu_at four_in two_in body_in body_at command_of Rattle.smpp_pdu.specs.BodyReading.bind_at Rattle.smpp_pdu.specs.BodyReading.message_at Rattle.smpp_pdu.specs.BodyReading.address_in Rattle.smpp_pdu.specs.FieldReading.c_string_in Rattle.smpp_pdu.specs.FieldReading.text_in Rattle.smpp_pdu.specs.FieldReading.time_in Rattle.smpp_pdu.specs.FieldReading.short_message_in Rattle.smpp_pdu.specs.TlvReading.tlvs_at Rattle.smpp_pdu.specs.TlvReading.parameters_in Rattle.smpp_pdu.specs.TlvReading.tlv_in Rattle.sms_base.specs.Reading.run_in
cut_in_a_string = refl

ends_in_a_string : pdu_at (0 ∷ 0 ∷ 0 ∷ 19 ∷ 0 ∷ 0 ∷ 0 ∷ 9 ∷ 0 ∷ 0 ∷ 0 ∷ 0 ∷ 0 ∷ 0 ∷ 0 ∷ 1 ∷ 97 ∷ 112 ∷ 112 ∷ []) ≡ Err NoTerminator
unfolding pdu_at four_in two_in body_in body_at command_of Rattle.smpp_pdu.specs.BodyReading.bind_at Rattle.smpp_pdu.specs.BodyReading.message_at Rattle.smpp_pdu.specs.BodyReading.address_in Rattle.smpp_pdu.specs.FieldReading.c_string_in Rattle.smpp_pdu.specs.FieldReading.text_in Rattle.smpp_pdu.specs.FieldReading.time_in Rattle.smpp_pdu.specs.FieldReading.short_message_in Rattle.smpp_pdu.specs.TlvReading.tlvs_at Rattle.smpp_pdu.specs.TlvReading.parameters_in Rattle.smpp_pdu.specs.TlvReading.tlv_in Rattle.sms_base.specs.Reading.run_in
ends_in_a_string = refl

ends_before_a_string : pdu_at (0 ∷ 0 ∷ 0 ∷ 16 ∷ 0 ∷ 0 ∷ 0 ∷ 9 ∷ 0 ∷ 0 ∷ 0 ∷ 0 ∷ 0 ∷ 0 ∷ 0 ∷ 1 ∷ []) ≡ Err Truncated
unfolding pdu_at four_in two_in body_in body_at command_of Rattle.smpp_pdu.specs.BodyReading.bind_at Rattle.smpp_pdu.specs.BodyReading.message_at Rattle.smpp_pdu.specs.BodyReading.address_in Rattle.smpp_pdu.specs.FieldReading.c_string_in Rattle.smpp_pdu.specs.FieldReading.text_in Rattle.smpp_pdu.specs.FieldReading.time_in Rattle.smpp_pdu.specs.FieldReading.short_message_in Rattle.smpp_pdu.specs.TlvReading.tlvs_at Rattle.smpp_pdu.specs.TlvReading.parameters_in Rattle.smpp_pdu.specs.TlvReading.tlv_in Rattle.sms_base.specs.Reading.run_in
ends_before_a_string = refl

string_of_sixteen : pdu_at (0 ∷ 0 ∷ 0 ∷ 33 ∷ 0 ∷ 0 ∷ 0 ∷ 9 ∷ 0 ∷ 0 ∷ 0 ∷ 0 ∷ 0 ∷ 0 ∷ 0 ∷ 1 ∷ 97 ∷ 97 ∷ 97 ∷ 97 ∷ 97 ∷ 97 ∷ 97 ∷ 97 ∷ 97 ∷ 97 ∷ 97 ∷ 97 ∷ 97 ∷ 97 ∷ 97 ∷ 97 ∷ []) ≡ Err FieldTooLong
unfolding pdu_at four_in two_in body_in body_at command_of Rattle.smpp_pdu.specs.BodyReading.bind_at Rattle.smpp_pdu.specs.BodyReading.message_at Rattle.smpp_pdu.specs.BodyReading.address_in Rattle.smpp_pdu.specs.FieldReading.c_string_in Rattle.smpp_pdu.specs.FieldReading.text_in Rattle.smpp_pdu.specs.FieldReading.time_in Rattle.smpp_pdu.specs.FieldReading.short_message_in Rattle.smpp_pdu.specs.TlvReading.tlvs_at Rattle.smpp_pdu.specs.TlvReading.parameters_in Rattle.smpp_pdu.specs.TlvReading.tlv_in Rattle.sms_base.specs.Reading.run_in
string_of_sixteen = refl

sm_length_255 : pdu_at (0 ∷ 0 ∷ 0 ∷ 45 ∷ 0 ∷ 0 ∷ 0 ∷ 4 ∷ 0 ∷ 0 ∷ 0 ∷ 0 ∷ 0 ∷ 0 ∷ 0 ∷ 2 ∷ 0 ∷ 0 ∷ 0 ∷ 0 ∷ 1 ∷ 1 ∷ 52 ∷ 52 ∷ 55 ∷ 55 ∷ 48 ∷ 48 ∷ 57 ∷ 48 ∷ 48 ∷ 52 ∷ 53 ∷ 54 ∷ 0 ∷ 0 ∷ 0 ∷ 0 ∷ 0 ∷ 0 ∷ 1 ∷ 0 ∷ 0 ∷ 0 ∷ 255 ∷ []) ≡ Err ShortMessageTooLong
unfolding pdu_at four_in two_in body_in body_at command_of Rattle.smpp_pdu.specs.BodyReading.bind_at Rattle.smpp_pdu.specs.BodyReading.message_at Rattle.smpp_pdu.specs.BodyReading.address_in Rattle.smpp_pdu.specs.FieldReading.c_string_in Rattle.smpp_pdu.specs.FieldReading.text_in Rattle.smpp_pdu.specs.FieldReading.time_in Rattle.smpp_pdu.specs.FieldReading.short_message_in Rattle.smpp_pdu.specs.TlvReading.tlvs_at Rattle.smpp_pdu.specs.TlvReading.parameters_in Rattle.smpp_pdu.specs.TlvReading.tlv_in Rattle.sms_base.specs.Reading.run_in
sm_length_255 = refl

time_of_one_character : pdu_at (0 ∷ 0 ∷ 0 ∷ 48 ∷ 0 ∷ 0 ∷ 0 ∷ 4 ∷ 0 ∷ 0 ∷ 0 ∷ 0 ∷ 0 ∷ 0 ∷ 0 ∷ 2 ∷ 0 ∷ 0 ∷ 0 ∷ 0 ∷ 1 ∷ 1 ∷ 52 ∷ 52 ∷ 0 ∷ 0 ∷ 0 ∷ 0 ∷ 49 ∷ 0 ∷ []) ≡ Err FieldTooLong
unfolding pdu_at four_in two_in body_in body_at command_of Rattle.smpp_pdu.specs.BodyReading.bind_at Rattle.smpp_pdu.specs.BodyReading.message_at Rattle.smpp_pdu.specs.BodyReading.address_in Rattle.smpp_pdu.specs.FieldReading.c_string_in Rattle.smpp_pdu.specs.FieldReading.text_in Rattle.smpp_pdu.specs.FieldReading.time_in Rattle.smpp_pdu.specs.FieldReading.short_message_in Rattle.smpp_pdu.specs.TlvReading.tlvs_at Rattle.smpp_pdu.specs.TlvReading.parameters_in Rattle.smpp_pdu.specs.TlvReading.tlv_in Rattle.sms_base.specs.Reading.run_in
time_of_one_character = refl

ends_in_a_parameter : pdu_at (0 ∷ 0 ∷ 0 ∷ 47 ∷ 0 ∷ 0 ∷ 0 ∷ 4 ∷ 0 ∷ 0 ∷ 0 ∷ 0 ∷ 0 ∷ 0 ∷ 0 ∷ 2 ∷ 0 ∷ 0 ∷ 0 ∷ 0 ∷ 1 ∷ 1 ∷ 52 ∷ 52 ∷ 55 ∷ 55 ∷ 48 ∷ 48 ∷ 57 ∷ 48 ∷ 48 ∷ 52 ∷ 53 ∷ 54 ∷ 0 ∷ 0 ∷ 0 ∷ 0 ∷ 0 ∷ 0 ∷ 1 ∷ 0 ∷ 0 ∷ 0 ∷ 0 ∷ 4 ∷ 36 ∷ []) ≡ Err BadTlv
unfolding pdu_at four_in two_in body_in body_at command_of Rattle.smpp_pdu.specs.BodyReading.bind_at Rattle.smpp_pdu.specs.BodyReading.message_at Rattle.smpp_pdu.specs.BodyReading.address_in Rattle.smpp_pdu.specs.FieldReading.c_string_in Rattle.smpp_pdu.specs.FieldReading.text_in Rattle.smpp_pdu.specs.FieldReading.time_in Rattle.smpp_pdu.specs.FieldReading.short_message_in Rattle.smpp_pdu.specs.TlvReading.tlvs_at Rattle.smpp_pdu.specs.TlvReading.parameters_in Rattle.smpp_pdu.specs.TlvReading.tlv_in Rattle.sms_base.specs.Reading.run_in
ends_in_a_parameter = refl
