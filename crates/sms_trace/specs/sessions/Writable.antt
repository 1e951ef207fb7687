-- PDUs of a script's run that can be written.
use Rattle.std.specs.Prelude.{◌≤◌}
use Rattle.smpp_pdu.specs.BodyGrammar.{IsCancelValue, IsMessageValue, IsQueryRespValue, IsQueryValue}
use Rattle.smpp_pdu.specs.Writing.{IfThere, IsMessageRespValue, written_len}
use Rattle.smpp_pdu.specs.declared.body.Body.{Body}
use Rattle.smpp_pdu.specs.declared.body.Body.TheVariants.{BindReceiver, BindTransmitter, BindTransceiver, SubmitSm, DeliverSm, QuerySm, CancelSm, Unbind}
use Rattle.smpp_pdu.specs.declared.body.Body.TheVariants.{EnquireLink, GenericNack, BindReceiverResp, BindTransmitterResp, BindTransceiverResp, SubmitSmResp}
use Rattle.smpp_pdu.specs.declared.body.Body.TheVariants.{DeliverSmResp, QuerySmResp, CancelSmResp, UnbindResp, EnquireLinkResp}
use Rattle.smpp_pdu.specs.declared.tlv.Tlvs.{Tlvs}

-- parameters that a message has room for
pub record AreShort (t : Tlvs) : Type 0 where
  pub reference : written_len t.sar_msg_ref_num ≤ 104
  pub total : written_len t.sar_total_segments ≤ 104
  pub number : written_len t.sar_segment_seqnum ≤ 104
  pub payload : written_len t.message_payload ≤ 60004
  pub receipted : written_len t.receipted_message_id ≤ 104
  pub state : written_len t.message_state ≤ 104

-- fields within their limits, of the commands that a run has: requests, receipts and their answers
abbrev pub CanBeWritten : Body → Type 0
CanBeWritten (SubmitSm body) = IsMessageValue body × AreShort body.tlvs
CanBeWritten (DeliverSm body) = IsMessageValue body × AreShort body.tlvs
CanBeWritten (QuerySm body) = IsQueryValue body
CanBeWritten (CancelSm body) = IsCancelValue body
CanBeWritten (SubmitSmResp body) = IfThere IsMessageRespValue body
CanBeWritten (DeliverSmResp body) = IfThere IsMessageRespValue body
CanBeWritten (QuerySmResp body) = IfThere IsQueryRespValue body
CanBeWritten CancelSmResp = Unit {0}
CanBeWritten (BindReceiver body) = ⊥
CanBeWritten (BindTransmitter body) = ⊥
CanBeWritten (BindTransceiver body) = ⊥
CanBeWritten Unbind = ⊥
CanBeWritten EnquireLink = ⊥
CanBeWritten GenericNack = ⊥
CanBeWritten (BindReceiverResp body) = ⊥
CanBeWritten (BindTransmitterResp body) = ⊥
CanBeWritten (BindTransceiverResp body) = ⊥
CanBeWritten UnbindResp = ⊥
CanBeWritten EnquireLinkResp = ⊥
