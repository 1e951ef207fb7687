-- The answers to requests that were passed up (SMPP v3.4 4.4.2, 4.8.2, 4.9.2).
use Rattle.std.specs.Prelude.{◌≢◌, ℕ, List, ◌++◌, Option, Some, None, Bool, if◌then◌else◌}
use Rattle.smpp_pdu.specs.declared.status.CommandStatus.{CommandStatus}
use Rattle.smpp_pdu.specs.declared.status.CommandStatus.TheVariants.{ESME_ROK}
use Rattle.smpp_pdu.specs.declared.body.Body.{Body}
use Rattle.smpp_pdu.specs.declared.body.Body.TheVariants.{SubmitSmResp, QuerySmResp, CancelSmResp}
use Rattle.smpp_pdu.specs.declared.pdu.Pdu.{Pdu}
use Rattle.smpp_pdu.specs.BodyGrammar.{IsQueryRespValue}
use Rattle.smpp_pdu.specs.Writing.{written, IsMessageRespValue}
use Rattle.smpp_session.specs.declared.answer.Answer.{Answer}
use Rattle.smpp_session.specs.declared.answer.Answer.TheVariants.{Submitted, Queried, Cancelled, Refused}
use Rattle.smpp_session.specs.declared.answer.Request.{Request}
use Rattle.smpp_session.specs.declared.answer.Request.TheVariants.{Submit, Query, Cancel}
use Rattle.smpp_session.specs.declared.conversation.Conversation.{Conversation}
use Rattle.smpp_session.specs.Bindings.{is_closed}
use Rattle.smpp_session.specs.SessionTable.{closed_conversation, has_settled, response, unbind_resp_to}
use Rattle.smpp_session.specs.Windows.{without}

-- each field is within its limit, and a refusal has a status of its own
abbrev pub IsAnswer : Answer → Type 0
IsAnswer (Submitted body) = IsMessageRespValue body
IsAnswer (Queried body) = IsQueryRespValue body
IsAnswer Cancelled = Unit {0}
IsAnswer (Refused request status) = status ≢ ESME_ROK

abbrev pub refused_body : Request → Body
refused_body Submit = SubmitSmResp None
refused_body Query = QuerySmResp None
refused_body Cancel = CancelSmResp

abbrev pub answer_body : Answer → Body
answer_body (Submitted body) = SubmitSmResp (Some body)
answer_body (Queried body) = QuerySmResp (Some body)
answer_body Cancelled = CancelSmResp
answer_body (Refused request status) = refused_body request

abbrev pub answer_status : Answer → CommandStatus
answer_status (Refused request status) = status
answer_status answer = ESME_ROK

-- the response under the request's sequence number
unfoldable pub answer_pdu : ℕ → Answer → Pdu
answer_pdu number answer = response (answer_body answer) (answer_status answer) number

-- the requests that are owed their answers when that one has its own
abbrev pub owed_behind : ℕ → Conversation → List ℕ
owed_behind number conversation = without number conversation.owed

-- whether it is the last answer of a session that is to end
abbrev pub is_last : ℕ → Conversation → Bool
is_last number conversation = has_settled conversation.state (owed_behind number conversation)

-- the unbind that is answered behind it
abbrev pub last_unbind : ℕ → Conversation → Option ℕ
last_unbind number conversation = if is_last number conversation then conversation.unbind else None

-- The octets of an answer. Behind the last one that is owed is the unbind_resp, where the other side has sent unbind. A closed
-- session gives nothing.
abbrev pub answered : Conversation → ℕ → Answer → Option (List ℕ)
answered conversation number answer =
    if is_closed conversation.state then None
    else Some (written (answer_pdu number answer) ++ unbind_resp_to (last_unbind number conversation))

-- The request has its answer. With the last one that is owed an ending session is closed.
abbrev pub after_answer : ℕ → Conversation → Conversation
after_answer number conversation =
    if is_last number conversation then closed_conversation conversation else record conversation { owed = owed_behind number conversation }
