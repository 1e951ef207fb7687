-- PDUs as they are written: one list for each value.
use Rattle.std.specs.Prelude.{◌≡◌, ℕ, ◌+◌, ◌≤◌, List, [], length, Option, Some, None}
use Rattle.smpp_pdu.specs.declared.bind.BindResp.{BindResp}
use Rattle.smpp_pdu.specs.declared.message.Message.{Message}
use Rattle.smpp_pdu.specs.declared.message.MessageResp.{MessageResp}
use Rattle.smpp_pdu.specs.declared.body.Body.{Body}
use Rattle.smpp_pdu.specs.declared.body.Body.TheVariants.{BindReceiver, BindTransmitter, BindTransceiver, SubmitSm, DeliverSm, QuerySm, CancelSm, Unbind}
use Rattle.smpp_pdu.specs.declared.body.Body.TheVariants.{EnquireLink, GenericNack, BindReceiverResp, BindTransmitterResp, BindTransceiverResp, SubmitSmResp}
use Rattle.smpp_pdu.specs.declared.body.Body.TheVariants.{DeliverSmResp, QuerySmResp, CancelSmResp, UnbindResp, EnquireLinkResp}
use Rattle.smpp_pdu.specs.declared.pdu.Pdu.{Pdu}
use Rattle.smpp_pdu.specs.declared.tlv.Tlvs.{Tlvs}
use Rattle.smpp_pdu.specs.Fields.{IsText}
use Rattle.smpp_pdu.specs.Tlvs.{tlv_octets, tlvs_of}
use Rattle.smpp_pdu.specs.BodyGrammar.{IsBindValue, bind_octets, bind_resp_octets, IsMessageValue, message_octets, message_resp_octets, IsQueryValue}
use Rattle.smpp_pdu.specs.BodyGrammar.{query_octets, IsQueryRespValue, query_resp_octets, IsCancelValue, cancel_octets}
use Rattle.smpp_pdu.specs.PduGrammar.{pdu_octets}

-- the values that are there, in the order of tlvs_of
abbrev pub written_tlvs : Tlvs → List ℕ
written_tlvs values = tlv_octets (tlvs_of values)

-- how many octets a parameter is written with, if it is there
abbrev pub written_len : Option (List ℕ) → ℕ
written_len None = 0
written_len (Some value) = 4 + length value

abbrev pub written_message : Message → List ℕ
written_message m = message_octets m (written_tlvs m.tlvs)

abbrev pub written_bind_resp : BindResp → List ℕ
written_bind_resp r = bind_resp_octets r (written_tlvs r.tlvs)

abbrev pub IsBindRespValue : BindResp → Type 0
IsBindRespValue r = IsText 16 r.system_id

abbrev pub IsMessageRespValue : MessageResp → Type 0
IsMessageRespValue r = IsText 65 r.message_id

-- nothing for no body
abbrev pub or_nothing : {A : Type 0} → (A → List ℕ) → Option A → List ℕ
or_nothing octets None = []
or_nothing octets (Some value) = octets value

abbrev pub IfThere : {A : Type 0} → (A → Type 0) → Option A → Type 0
IfThere is None = Unit {0}
IfThere is (Some value) = is value

abbrev pub written_body : Body → List ℕ
written_body (BindReceiver body) = bind_octets body
written_body (BindTransmitter body) = bind_octets body
written_body (BindTransceiver body) = bind_octets body
written_body (SubmitSm body) = written_message body
written_body (DeliverSm body) = written_message body
written_body (QuerySm body) = query_octets body
written_body (CancelSm body) = cancel_octets body
written_body Unbind = []
written_body EnquireLink = []
written_body GenericNack = []
written_body (BindReceiverResp body) = or_nothing written_bind_resp body
written_body (BindTransmitterResp body) = or_nothing written_bind_resp body
written_body (BindTransceiverResp body) = or_nothing written_bind_resp body
written_body (SubmitSmResp body) = or_nothing message_resp_octets body
written_body (DeliverSmResp body) = or_nothing message_resp_octets body
written_body (QuerySmResp body) = or_nothing query_resp_octets body
written_body CancelSmResp = []
written_body UnbindResp = []
written_body EnquireLinkResp = []

-- each field is within its limit
abbrev pub IsBodyValue : Body → Type 0
IsBodyValue (BindReceiver body) = IsBindValue body
IsBodyValue (BindTransmitter body) = IsBindValue body
IsBodyValue (BindTransceiver body) = IsBindValue body
IsBodyValue (SubmitSm body) = IsMessageValue body
IsBodyValue (DeliverSm body) = IsMessageValue body
IsBodyValue (QuerySm body) = IsQueryValue body
IsBodyValue (CancelSm body) = IsCancelValue body
IsBodyValue Unbind = Unit {0}
IsBodyValue EnquireLink = Unit {0}
IsBodyValue GenericNack = Unit {0}
IsBodyValue (BindReceiverResp body) = IfThere IsBindRespValue body
IsBodyValue (BindTransmitterResp body) = IfThere IsBindRespValue body
IsBodyValue (BindTransceiverResp body) = IfThere IsBindRespValue body
IsBodyValue (SubmitSmResp body) = IfThere IsMessageRespValue body
IsBodyValue (DeliverSmResp body) = IfThere IsMessageRespValue body
IsBodyValue (QuerySmResp body) = IfThere IsQueryRespValue body
IsBodyValue CancelSmResp = Unit {0}
IsBodyValue UnbindResp = Unit {0}
IsBodyValue EnquireLinkResp = Unit {0}

abbrev pub written : Pdu → List ℕ
written pdu = pdu_octets pdu (written_body pdu.body)

-- What can be written: fields within their limits, in at most 65,536 octets.
pub record IsWritable (pdu : Pdu) : Type 0 where
  pub fields : IsBodyValue pdu.body
  pub short : 16 + length (written_body pdu.body) ≤ 65536

abbrev pub IsWritten : List ℕ → Pdu → Type 0
IsWritten octets pdu = IsWritable pdu × (octets ≡ written pdu)
