-- What answers a request, by the answer of the centre.
use Rattle.std.specs.Prelude.{ℕ, ◌%◌, List, [], ◌++◌, Option, Some, None, codes}
use Rattle.sms_base.specs.MessageId.{id_text}
use Rattle.sms_base.specs.SmppTime.{two_digits}
use Rattle.sms_base.specs.UtcClock.{date_of}
use Rattle.smpp_pdu.specs.declared.status.CommandStatus.{CommandStatus}
use Rattle.smpp_pdu.specs.declared.status.CommandStatus.TheVariants.{ESME_ROK, ESME_RSYSERR}
use Rattle.smpp_session.specs.declared.answer.Answer.{Answer}
use Rattle.smpp_session.specs.declared.answer.Answer.TheVariants.{Submitted, Queried, Cancelled, Refused}
use Rattle.smpp_session.specs.declared.answer.Request.{Request}
use Rattle.smpp_session.specs.declared.conversation.Conversation.{Conversation}
use Rattle.smpp_session.specs.Answers.{answered}
use Rattle.sms_centre_spec.specs.declared.answer.CentreAnswer.{CentreAnswer}
use Rattle.sms_centre_spec.specs.declared.answer.CentreAnswer.TheVariants.{Submitted as SubmittedOf, Queried as QueriedOf, Cancelled as CancelledOf}
use Rattle.sms_centre_spec.specs.declared.answer.CentreAnswer.TheVariants.{Refused as RefusedOf}
use Rattle.sms_receipt.specs.Receipts.{state_number}
use Rattle.smsc_endpoint.specs.declared.pending.PendingRequest.{PendingRequest}

-- An absolute time at UTC, YYMMDDhhmmss000+; none where the message has not ended (SMPP v3.4 7.1.1).
abbrev pub final_date : Option ℕ → List ℕ
final_date None = []
final_date (Some moment) = (date_of moment ++ two_digits (moment % 60)) ++ codes "000+"

-- no refusal has the status of success
abbrev pub refusal_status : CommandStatus → CommandStatus
refusal_status ESME_ROK = ESME_RSYSERR
refusal_status status = status

abbrev pub answer_to : Request → CentreAnswer → Answer
answer_to request (SubmittedOf id) = Submitted (record { message_id = id_text id })
answer_to request (QueriedOf id state done) =
    Queried (record { message_id = id_text id; final_date = final_date done; message_state = state_number state; error_code = 0 })
answer_to request CancelledOf = Cancelled
answer_to request (RefusedOf status) = Refused request (refusal_status status)

-- The octets of the answer, under the sequence number of the request, and the unbind_resp behind the last one of a session that is to
-- end. A session that is closed has none.
abbrev pub response : Conversation → PendingRequest → CentreAnswer → Option (List ℕ)
response conversation request answer = answered conversation request.sequence_number (answer_to request.request answer)
