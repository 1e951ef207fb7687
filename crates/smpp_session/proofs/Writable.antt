-- The answers of a session can be written.
use Rattle.std.proofs.Common.{◌≡◌, ℕ, ◌+◌, ◌≤◌, List, [], length, None, refl, sym, ap, subst, arith}
use Rattle.smpp_pdu.specs.declared.command.CommandId.{CommandId}
use Rattle.smpp_pdu.specs.declared.command.CommandId.TheVariants.{BindReceiver as BindReceiverId, BindTransmitter as BindTransmitterId, BindTransceiver as BindTransceiverId, SubmitSm as SubmitSmId, QuerySm as QuerySmId, CancelSm as CancelSmId, Unbind as UnbindId, EnquireLink as EnquireLinkId}
use Rattle.smpp_pdu.specs.declared.status.CommandStatus.{CommandStatus}
use Rattle.smpp_pdu.specs.declared.body.Body.{Body}
use Rattle.smpp_pdu.specs.declared.pdu.Pdu.{Pdu}
use Rattle.smpp_pdu.specs.declared.status.CommandStatus.TheVariants.{ESME_ROK}
use Rattle.smpp_pdu.specs.declared.body.Body.TheVariants.{GenericNack, BindReceiverResp, BindTransmitterResp, BindTransceiverResp, SubmitSmResp, QuerySmResp, CancelSmResp, Unbind, UnbindResp, EnquireLinkResp}
use Rattle.smpp_pdu.specs.Writing.{IsWritable, IsBodyValue, written_body}
use Rattle.smpp_pdu.specs.BodyGrammar.{message_resp_octets, query_resp_octets}
use Rattle.smpp_pdu.proofs.Lengths.{message_resp_length, query_resp_length}
use Rattle.smpp_pdu.specs.Fields.{IsTimeText}
use Rattle.smpp_session.specs.declared.answer.Answer.{Answer}
use Rattle.smpp_session.specs.declared.answer.Answer.TheVariants.{Submitted, Queried, Cancelled, Refused}
use Rattle.smpp_session.specs.declared.answer.Request.TheVariants.{Submit, Query, Cancel}
use Rattle.smpp_session.specs.Answers.{IsAnswer, answer_body}
use Rattle.smpp_session.specs.declared.action.BindKind.{BindKind}
use Rattle.smpp_session.specs.declared.action.BindKind.TheVariants.{Transmitter, Receiver, Transceiver}
use Rattle.smpp_session.specs.SessionTable.{refusal, without_bind_resp, response}

small : (body : Body) (status : CommandStatus) (n : ℕ) → IsBodyValue body → written_body body ≡ [] → IsWritable (response body status n)
small body status n fields none =
    let len : length (written_body body) ≡ 0 = ap length none in
    record { fields = fields; short = omega (arith, len) }

refusal_can : (c : CommandId) (status : CommandStatus) (n : ℕ) → IsWritable (response (refusal c) status n)
refusal_can BindReceiverId status n = small (BindReceiverResp None) status n tt refl
refusal_can BindTransmitterId status n = small (BindTransmitterResp None) status n tt refl
refusal_can BindTransceiverId status n = small (BindTransceiverResp None) status n tt refl
refusal_can SubmitSmId status n = small (SubmitSmResp None) status n tt refl
refusal_can QuerySmId status n = small (QuerySmResp None) status n tt refl
refusal_can CancelSmId status n = small CancelSmResp status n tt refl
refusal_can UnbindId status n = small UnbindResp status n tt refl
refusal_can EnquireLinkId status n = small EnquireLinkResp status n tt refl
refusal_can c status n = small GenericNack status n tt refl

pub refusal_writable : (body : Body) (c : CommandId) (status : CommandStatus) (n : ℕ) → body ≡ refusal c → IsWritable (response body status n)
refusal_writable body c status n e = subst (λ (b : Body). IsWritable (response b status n)) (sym e) (refusal_can c status n)

bind_refusal_can : (k : BindKind) (status : CommandStatus) (n : ℕ) → IsWritable (response (without_bind_resp k) status n)
bind_refusal_can Transmitter status n = small (BindTransmitterResp None) status n tt refl
bind_refusal_can Receiver status n = small (BindReceiverResp None) status n tt refl
bind_refusal_can Transceiver status n = small (BindTransceiverResp None) status n tt refl

pub bind_refusal_writable : (body : Body) (k : BindKind) (status : CommandStatus) (n : ℕ) → body ≡ without_bind_resp k → IsWritable (response body status n)
bind_refusal_writable body k status n e = subst (λ (b : Body). IsWritable (response b status n)) (sym e) (bind_refusal_can k status n)

-- an unbind and its answer
unbind_can : (n : ℕ) → IsWritable (response Unbind ESME_ROK n)
unbind_can n = small Unbind ESME_ROK n tt refl

pub unbind_resp_can : (n : ℕ) → IsWritable (response UnbindResp ESME_ROK n)
unbind_resp_can n = small UnbindResp ESME_ROK n tt refl

time_short : (time : List ℕ) → IsTimeText time → length time ≤ 16
time_short time h = omega (arith, h.time.short)

answer_can : (answer : Answer) (status : CommandStatus) (n : ℕ) → IsAnswer answer → IsWritable (response (answer_body answer) status n)
answer_can (Submitted body) status n h =
    let len : length (message_resp_octets body) ≡ length body.message_id + 1 = message_resp_length body in
    record { fields = h; short = omega (arith, len, h.short) }
answer_can (Queried body) status n h =
    let len : length (query_resp_octets body) ≡ length body.message_id + length body.final_date + 4 = query_resp_length body in
    let time : length body.final_date ≤ 16 = time_short body.final_date h.final_date in
    record { fields = h; short = omega (arith, len, time, h.message_id.short) }
answer_can Cancelled status n h = small CancelSmResp status n tt refl
answer_can (Refused Submit s) status n h = small (SubmitSmResp None) status n tt refl
answer_can (Refused Query s) status n h = small (QuerySmResp None) status n tt refl
answer_can (Refused Cancel s) status n h = small CancelSmResp status n tt refl

pub answer_writable : (body : Body) (answer : Answer) (status n : ℕ) → body ≡ answer_body answer → IsAnswer answer → (let pdu : Pdu = record { command_status = status; sequence_number = n; body = body } in IsWritable pdu)
answer_writable body answer status n e h = subst (λ (b : Body). IsWritable (with_body b)) (sym e) (record { fields = can.fields; short = can.short }) where
  can : IsWritable (response (answer_body answer) ESME_ROK n)
  can = answer_can answer ESME_ROK n h

  with_body : Body → Pdu
  with_body b = record { command_status = status; sequence_number = n; body = b }
