-- Reading a whole PDU from left to right, with the first fault.
use Rattle.std.specs.Prelude.{ℕ, ◌-◌, List, [], ◌∷◌, length, take, Option, Some, None, Result, Ok, Err, ◌&&◌, ◌==◌, nat_lt, nat_le, if◌then◌else◌}
use Rattle.std.specs.Option.{ok_or}
use Rattle.sms_base.specs.Reading.{◌>>=◌, only_if, end_in}
use Rattle.smpp_pdu.specs.declared.fault.PduFault.{PduFault}
use Rattle.smpp_pdu.specs.declared.fault.PduFault.TheVariants.{Truncated, BadLength, UnknownCommand, FieldTooLong, ShortMessageTooLong}
use Rattle.smpp_pdu.specs.declared.command.CommandId.{CommandId}
use Rattle.smpp_pdu.specs.declared.command.CommandId.TheVariants.{BindReceiver as BindReceiverId, BindTransmitter as BindTransmitterId}
use Rattle.smpp_pdu.specs.declared.command.CommandId.TheVariants.{BindTransceiver as BindTransceiverId, SubmitSm as SubmitSmId, DeliverSm as DeliverSmId}
use Rattle.smpp_pdu.specs.declared.command.CommandId.TheVariants.{QuerySm as QuerySmId, CancelSm as CancelSmId, Unbind as UnbindId}
use Rattle.smpp_pdu.specs.declared.command.CommandId.TheVariants.{EnquireLink as EnquireLinkId, GenericNack as GenericNackId}
use Rattle.smpp_pdu.specs.declared.command.CommandId.TheVariants.{BindReceiverResp as BindReceiverRespId, BindTransmitterResp as BindTransmitterRespId}
use Rattle.smpp_pdu.specs.declared.command.CommandId.TheVariants.{BindTransceiverResp as BindTransceiverRespId, SubmitSmResp as SubmitSmRespId}
use Rattle.smpp_pdu.specs.declared.command.CommandId.TheVariants.{DeliverSmResp as DeliverSmRespId, QuerySmResp as QuerySmRespId}
use Rattle.smpp_pdu.specs.declared.command.CommandId.TheVariants.{CancelSmResp as CancelSmRespId, UnbindResp as UnbindRespId}
use Rattle.smpp_pdu.specs.declared.command.CommandId.TheVariants.{EnquireLinkResp as EnquireLinkRespId}
use Rattle.smpp_pdu.specs.declared.body.Body.{Body}
use Rattle.smpp_pdu.specs.declared.body.Body.TheVariants.{BindReceiver, BindTransmitter, BindTransceiver, SubmitSm, DeliverSm, QuerySm, CancelSm, Unbind}
use Rattle.smpp_pdu.specs.declared.body.Body.TheVariants.{EnquireLink, GenericNack, BindReceiverResp, BindTransmitterResp, BindTransceiverResp, SubmitSmResp}
use Rattle.smpp_pdu.specs.declared.body.Body.TheVariants.{DeliverSmResp, QuerySmResp, CancelSmResp, UnbindResp, EnquireLinkResp}
use Rattle.smpp_pdu.specs.declared.header.Header.{Header}
use Rattle.smpp_pdu.specs.declared.pdu.Pdu.{Pdu}
use Rattle.smpp_pdu.specs.Commands.{command_of}
use Rattle.smpp_pdu.specs.FieldReading.{four_in}
use Rattle.smpp_pdu.specs.BodyReading.{bind_at, bind_resp_at, message_at, message_resp_at, query_at, query_resp_at, cancel_at}

-- a header, whatever its numbers
unfoldable pub header_in : List ℕ → Result (Header × List ℕ) PduFault
header_in octets = do
  command_length ← four_in octets
  command_id ← four_in command_length.1
  command_status ← four_in command_id.1
  sequence_number ← four_in command_status.1
  Ok (
    record {
      command_length = command_length.0;
      command_id = command_id.0;
      command_status = command_status.0;
      sequence_number = sequence_number.0;
    },
    sequence_number.1,
  )

-- the body of a response, if it has one
abbrev pub or_none : {A : Type 0} → (List ℕ → Result A PduFault) → List ℕ → Result (Option A) PduFault
or_none at [] = Ok None
or_none at (octet ∷ rest) = at (octet ∷ rest) >>= (λ body. Ok (Some body))

-- the body of that command that the octets are
unfoldable pub body_at : CommandId → List ℕ → Result Body PduFault
body_at BindReceiverId octets = bind_at octets >>= (λ body. Ok (BindReceiver body))
body_at BindTransmitterId octets = bind_at octets >>= (λ body. Ok (BindTransmitter body))
body_at BindTransceiverId octets = bind_at octets >>= (λ body. Ok (BindTransceiver body))
body_at SubmitSmId octets = message_at octets >>= (λ body. Ok (SubmitSm body))
body_at DeliverSmId octets = message_at octets >>= (λ body. Ok (DeliverSm body))
body_at QuerySmId octets = query_at octets >>= (λ body. Ok (QuerySm body))
body_at CancelSmId octets = cancel_at octets >>= (λ body. Ok (CancelSm body))
body_at UnbindId octets = end_in BadLength octets >>= (λ done. Ok Unbind)
body_at EnquireLinkId octets = end_in BadLength octets >>= (λ done. Ok EnquireLink)
body_at GenericNackId octets = end_in BadLength octets >>= (λ done. Ok GenericNack)
body_at BindReceiverRespId octets = or_none bind_resp_at octets >>= (λ body. Ok (BindReceiverResp body))
body_at BindTransmitterRespId octets = or_none bind_resp_at octets >>= (λ body. Ok (BindTransmitterResp body))
body_at BindTransceiverRespId octets = or_none bind_resp_at octets >>= (λ body. Ok (BindTransceiverResp body))
body_at SubmitSmRespId octets = or_none message_resp_at octets >>= (λ body. Ok (SubmitSmResp body))
body_at DeliverSmRespId octets = or_none message_resp_at octets >>= (λ body. Ok (DeliverSmResp body))
body_at QuerySmRespId octets = or_none query_resp_at octets >>= (λ body. Ok (QuerySmResp body))
body_at CancelSmRespId octets = end_in BadLength octets >>= (λ done. Ok CancelSmResp)
body_at UnbindRespId octets = end_in BadLength octets >>= (λ done. Ok UnbindResp)
body_at EnquireLinkRespId octets = end_in BadLength octets >>= (λ done. Ok EnquireLinkResp)

-- Where the octets end before the PDU does, an octet that is wrong is the fault, else that octets are missing.
abbrev pub cut_short : {A : Type 0} → Result A PduFault → PduFault
cut_short (Err FieldTooLong) = FieldTooLong
cut_short (Err ShortMessageTooLong) = ShortMessageTooLong
cut_short read = Truncated

-- the body of so many octets
unfoldable pub body_in : CommandId → ℕ → List ℕ → Result Body PduFault
body_in command len octets =
    if nat_lt (length octets) len then Err (cut_short (body_at command octets))
    else (do
      body ← body_at command (take len octets)
      whole ← only_if (length octets == len) BadLength
      Ok body)

-- a whole PDU
unfoldable pub pdu_at : List ℕ → Result Pdu PduFault
pdu_at octets = do
  command_length ← four_in octets
  in_range ← only_if (nat_le 16 command_length.0 && nat_le command_length.0 65536) BadLength
  command_id ← four_in command_length.1
  command ← ok_or (command_of command_id.0) UnknownCommand
  command_status ← four_in command_id.1
  sequence_number ← four_in command_status.1
  body ← body_in command (command_length.0 - 16) sequence_number.1
  Ok (record { command_status = command_status.0; sequence_number = sequence_number.0; body = body })
