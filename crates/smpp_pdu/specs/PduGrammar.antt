-- PDUs: a header and a body (SMPP v3.4 3.2).
use Rattle.std.specs.Prelude.{◌≡◌, ℕ, ◌+◌, ◌≤◌, List, [], ◌++◌, length}
use Rattle.smpp_pdu.specs.declared.command.CommandId.{CommandId}
use Rattle.smpp_pdu.specs.declared.command.CommandId.TheVariants.{BindReceiver as BindReceiverId, BindTransmitter as BindTransmitterId}
use Rattle.smpp_pdu.specs.declared.command.CommandId.TheVariants.{BindTransceiver as BindTransceiverId, SubmitSm as SubmitSmId, DeliverSm as DeliverSmId}
use Rattle.smpp_pdu.specs.declared.command.CommandId.TheVariants.{QuerySm as QuerySmId, CancelSm as CancelSmId, Unbind as UnbindId}
use Rattle.smpp_pdu.specs.declared.command.CommandId.TheVariants.{EnquireLink as EnquireLinkId, GenericNack as GenericNackId}
use Rattle.smpp_pdu.specs.declared.command.CommandId.TheVariants.{BindReceiverResp as BindReceiverRespId, BindTransmitterResp as BindTransmitterRespId}
use Rattle.smpp_pdu.specs.declared.command.CommandId.TheVariants.{BindTransceiverResp as BindTransceiverRespId, SubmitSmResp as SubmitSmRespId}
use Rattle.smpp_pdu.specs.declared.command.CommandId.TheVariants.{DeliverSmResp as DeliverSmRespId, QuerySmResp as QuerySmRespId}
use Rattle.smpp_pdu.specs.declared.command.CommandId.TheVariants.{CancelSmResp as CancelSmRespId, UnbindResp as UnbindRespId}
use Rattle.smpp_pdu.specs.declared.command.CommandId.TheVariants.{EnquireLinkResp as EnquireLinkRespId}
use Rattle.smpp_pdu.specs.declared.body.Body.{Body}
use Rattle.smpp_pdu.specs.declared.body.Body.TheVariants.{BindReceiver, BindTransmitter, BindTransceiver, SubmitSm, DeliverSm, QuerySm, CancelSm, Unbind}
use Rattle.smpp_pdu.specs.declared.body.Body.TheVariants.{EnquireLink, GenericNack, BindReceiverResp, BindTransmitterResp, BindTransceiverResp, SubmitSmResp}
use Rattle.smpp_pdu.specs.declared.body.Body.TheVariants.{DeliverSmResp, QuerySmResp, CancelSmResp, UnbindResp, EnquireLinkResp}
use Rattle.smpp_pdu.specs.declared.header.Header.{Header}
use Rattle.smpp_pdu.specs.declared.pdu.Pdu.{Pdu}
use Rattle.smpp_pdu.specs.Commands.{command_number}
use Rattle.smpp_pdu.specs.Fields.{four}
use Rattle.smpp_pdu.specs.BodyGrammar.{IsBind, IsBindResp, IsMessage, IsMessageResp, IsQuery, IsQueryResp, IsCancel, OrNone}

-- the command of a body
abbrev pub command_of_body : Body → CommandId
command_of_body (BindReceiver body) = BindReceiverId
command_of_body (BindTransmitter body) = BindTransmitterId
command_of_body (BindTransceiver body) = BindTransceiverId
command_of_body (SubmitSm body) = SubmitSmId
command_of_body (DeliverSm body) = DeliverSmId
command_of_body (QuerySm body) = QuerySmId
command_of_body (CancelSm body) = CancelSmId
command_of_body Unbind = UnbindId
command_of_body EnquireLink = EnquireLinkId
command_of_body GenericNack = GenericNackId
command_of_body (BindReceiverResp body) = BindReceiverRespId
command_of_body (BindTransmitterResp body) = BindTransmitterRespId
command_of_body (BindTransceiverResp body) = BindTransceiverRespId
command_of_body (SubmitSmResp body) = SubmitSmRespId
command_of_body (DeliverSmResp body) = DeliverSmRespId
command_of_body (QuerySmResp body) = QuerySmRespId
command_of_body CancelSmResp = CancelSmRespId
command_of_body UnbindResp = UnbindRespId
command_of_body EnquireLinkResp = EnquireLinkRespId

-- The octets of a body. No body has those of another command's but by its header.
abbrev pub IsBody : List ℕ → Body → Type 0
IsBody octets (BindReceiver body) = IsBind octets body
IsBody octets (BindTransmitter body) = IsBind octets body
IsBody octets (BindTransceiver body) = IsBind octets body
IsBody octets (SubmitSm body) = IsMessage octets body
IsBody octets (DeliverSm body) = IsMessage octets body
IsBody octets (QuerySm body) = IsQuery octets body
IsBody octets (CancelSm body) = IsCancel octets body
IsBody octets Unbind = octets ≡ []
IsBody octets EnquireLink = octets ≡ []
IsBody octets GenericNack = octets ≡ []
IsBody octets (BindReceiverResp body) = OrNone IsBindResp octets body
IsBody octets (BindTransmitterResp body) = OrNone IsBindResp octets body
IsBody octets (BindTransceiverResp body) = OrNone IsBindResp octets body
IsBody octets (SubmitSmResp body) = OrNone IsMessageResp octets body
IsBody octets (DeliverSmResp body) = OrNone IsMessageResp octets body
IsBody octets (QuerySmResp body) = OrNone IsQueryResp octets body
IsBody octets CancelSmResp = octets ≡ []
IsBody octets UnbindResp = octets ≡ []
IsBody octets EnquireLinkResp = octets ≡ []

-- the sixteen octets of a header (SMPP v3.4 3.2.1)
abbrev pub header_octets : Header → List ℕ
header_octets h = four h.command_length ++ (four h.command_id ++ (four h.command_status ++ four h.sequence_number))

-- the header and the body of a PDU behind each other
abbrev pub pdu_octets : Pdu → List ℕ → List ℕ
pdu_octets pdu body =
    four (16 + length body) ++ (four (command_number (command_of_body pdu.body)) ++ (four pdu.command_status ++ (four pdu.sequence_number ++ body)))

-- A PDU has at most 65,536 octets.
abbrev pub IsPdu : List ℕ → Pdu → Type 0
IsPdu octets pdu = (body : List ℕ) × IsBody body pdu.body × (16 + length body ≤ 65536) × (octets ≡ pdu_octets pdu body)
