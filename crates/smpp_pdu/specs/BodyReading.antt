-- Reading the bodies of PDUs from left to right, with the first fault. Octets left over are the last fault.
use Rattle.std.specs.Prelude.{ℕ, List, Result, Ok}
use Rattle.sms_base.specs.Reading.{◌>>=◌, octet_in, end_in}
use Rattle.smpp_pdu.specs.declared.fault.PduFault.{PduFault}
use Rattle.smpp_pdu.specs.declared.fault.PduFault.TheVariants.{Truncated, BadLength}
use Rattle.smpp_pdu.specs.declared.address.SmeAddress.{SmeAddress}
use Rattle.smpp_pdu.specs.declared.bind.Bind.{Bind}
use Rattle.smpp_pdu.specs.declared.bind.BindResp.{BindResp}
use Rattle.smpp_pdu.specs.declared.message.Message.{Message}
use Rattle.smpp_pdu.specs.declared.message.MessageResp.{MessageResp}
use Rattle.smpp_pdu.specs.declared.query.QuerySm.{QuerySm}
use Rattle.smpp_pdu.specs.declared.query.QuerySmResp.{QuerySmResp}
use Rattle.smpp_pdu.specs.declared.cancel.CancelSm.{CancelSm}
use Rattle.smpp_pdu.specs.FieldReading.{c_string_in, time_in, short_message_in}
use Rattle.smpp_pdu.specs.TlvReading.{tlvs_at}

unfoldable pub address_in : List ℕ → Result (SmeAddress × List ℕ) PduFault
address_in octets = do
  ton ← octet_in Truncated octets
  npi ← octet_in Truncated ton.1
  addr ← c_string_in 21 npi.1
  Ok (record { ton = ton.0; npi = npi.0; addr = addr.0 }, addr.1)

unfoldable pub bind_at : List ℕ → Result Bind PduFault
bind_at octets = do
  system_id ← c_string_in 16 octets
  password ← c_string_in 9 system_id.1
  system_type ← c_string_in 13 password.1
  interface_version ← octet_in Truncated system_type.1
  addr_ton ← octet_in Truncated interface_version.1
  addr_npi ← octet_in Truncated addr_ton.1
  address_range ← c_string_in 41 addr_npi.1
  done ← end_in BadLength address_range.1
  Ok (record {
    system_id = system_id.0;
    password = password.0;
    system_type = system_type.0;
    interface_version = interface_version.0;
    addr_ton = addr_ton.0;
    addr_npi = addr_npi.0;
    address_range = address_range.0;
  })

unfoldable pub bind_resp_at : List ℕ → Result BindResp PduFault
bind_resp_at octets = do
  system_id ← c_string_in 16 octets
  tlvs ← tlvs_at system_id.1
  Ok (record { system_id = system_id.0; tlvs = tlvs })

unfoldable pub message_at : List ℕ → Result Message PduFault
message_at octets = do
  service_type ← c_string_in 6 octets
  source ← address_in service_type.1
  destination ← address_in source.1
  esm_class ← octet_in Truncated destination.1
  protocol_id ← octet_in Truncated esm_class.1
  priority_flag ← octet_in Truncated protocol_id.1
  schedule_delivery_time ← time_in priority_flag.1
  validity_period ← time_in schedule_delivery_time.1
  registered_delivery ← octet_in Truncated validity_period.1
  replace_if_present_flag ← octet_in Truncated registered_delivery.1
  data_coding ← octet_in Truncated replace_if_present_flag.1
  sm_default_msg_id ← octet_in Truncated data_coding.1
  short_message ← short_message_in sm_default_msg_id.1
  tlvs ← tlvs_at short_message.1
  Ok (record {
    service_type = service_type.0;
    source = source.0;
    destination = destination.0;
    esm_class = esm_class.0;
    protocol_id = protocol_id.0;
    priority_flag = priority_flag.0;
    schedule_delivery_time = schedule_delivery_time.0;
    validity_period = validity_period.0;
    registered_delivery = registered_delivery.0;
    replace_if_present_flag = replace_if_present_flag.0;
    data_coding = data_coding.0;
    sm_default_msg_id = sm_default_msg_id.0;
    short_message = short_message.0;
    tlvs = tlvs;
  })

unfoldable pub message_resp_at : List ℕ → Result MessageResp PduFault
message_resp_at octets = do
  message_id ← c_string_in 65 octets
  done ← end_in BadLength message_id.1
  Ok (record { message_id = message_id.0 })

unfoldable pub query_at : List ℕ → Result QuerySm PduFault
query_at octets = do
  message_id ← c_string_in 65 octets
  source ← address_in message_id.1
  done ← end_in BadLength source.1
  Ok (record { message_id = message_id.0; source = source.0 })

unfoldable pub query_resp_at : List ℕ → Result QuerySmResp PduFault
query_resp_at octets = do
  message_id ← c_string_in 65 octets
  final_date ← time_in message_id.1
  message_state ← octet_in Truncated final_date.1
  error_code ← octet_in Truncated message_state.1
  done ← end_in BadLength error_code.1
  Ok (record { message_id = message_id.0; final_date = final_date.0; message_state = message_state.0; error_code = error_code.0 })

unfoldable pub cancel_at : List ℕ → Result CancelSm PduFault
cancel_at octets = do
  service_type ← c_string_in 6 octets
  message_id ← c_string_in 65 service_type.1
  source ← address_in message_id.1
  destination ← address_in source.1
  done ← end_in BadLength destination.1
  Ok (record { service_type = service_type.0; message_id = message_id.0; source = source.0; destination = destination.0 })
