-- An application's session at a seat over any calls.
use Rattle.std.specs.Prelude.{◌≡◌, ℕ, nat_le, List, [], ◌∷◌, ◌++◌, length, map, take, Option, Some, None, Bool, true, false, if◌then◌else◌}
use Rattle.smpp_pdu.specs.declared.header.Header.{Header}
use Rattle.smpp_pdu.specs.declared.status.CommandStatus.TheVariants.{ESME_RTHROTTLED}
use Rattle.smpp_session.specs.declared.account.Account.{Account}
use Rattle.smpp_session.specs.declared.action.Action.{Action}
use Rattle.smpp_session.specs.declared.action.Action.TheVariants.{Send, Bound, Submit, Query, Cancel, DeliverAnswered, BindRefused, Unbound}
use Rattle.smpp_session.specs.declared.answer.Request.{Request}
use Rattle.smpp_session.specs.declared.answer.Request.TheVariants.{Submit as SubmitRequest, Query as QueryRequest, Cancel as CancelRequest}
use Rattle.smpp_session.specs.declared.calling.Call.{Call}
use Rattle.smpp_session.specs.declared.calling.Call.TheVariants.{Full as FullCall, Feed, Deliver, Unbind as UnbindCall}
use Rattle.smpp_session.specs.Bindings.{is_bind_lost}
use Rattle.smpp_session.specs.Calls.{called, ran, sending}
use Rattle.smpp_session.specs.Owing.{IsConnected, call_of, Reply as ReplyOf}
use Rattle.smpp_session.specs.Sessions.{SessionView, after_answered, fed, opened as opened_session, unbinding}
use Rattle.sms_centre_spec.specs.declared.answer.CentreAnswer.{CentreAnswer}
use Rattle.sms_centre_spec.specs.declared.answer.CentreAnswer.TheVariants.{Refused}
use Rattle.sms_centre_spec.specs.declared.jobs.job.Job.{Job}
use Rattle.sms_centre_spec.specs.declared.jobs.job.Job.TheVariants.{Bound as BoundJob, Unbound as UnboundJob, Submit as SubmitJob, Query as QueryJob}
use Rattle.sms_centre_spec.specs.declared.jobs.job.Job.TheVariants.{Cancel as CancelJob, DeliverAnswered as DeliverAnsweredJob}
use Rattle.sms_centre_spec.specs.declared.jobs.reply.Reply.{Reply}
use Rattle.sms_centre_spec.specs.declared.jobs.reply.Reply.TheVariants.{Answer, Receipt, Frame, Taken}
use Rattle.sms_receipt.specs.declared.final_message.Final.{Final}
use Rattle.sms_receipt.specs.Receipts.{receipt_of}
use Rattle.smsc_endpoint.specs.declared.pending.PendingRequest.{PendingRequest}
use Rattle.smsc_endpoint.specs.EsmeView.{EsmeView, opened}
use Rattle.smsc_endpoint.specs.EsmeCalls.{account_octet, account_of, asked_to_leave, at_time, handed_back, handed_out, header_in, heard, is_sendable, pending}
use Rattle.smsc_endpoint.specs.EsmeCalls.{receives, saying}
use Rattle.smsc_endpoint.specs.EsmeCalls.{next_note, sent, taken, told}
use Rattle.smsc_endpoint.specs.Outbox.{requests_among}
use Rattle.smsc_endpoint.specs.PendingRequests.{throttled_before}
use Rattle.smsc_endpoint.specs.Responses.{answer_to, response}

-- ---- what the actions of a session ask

-- a PDU with a header is one
abbrev pub asked_with : Option Header → Job → List Job
asked_with None job = []
asked_with (Some header) job = job ∷ []

-- the jobs of an action, by the account that is bound before it
abbrev pub jobs_of : Option ℕ → Action → List Job
jobs_of account (Send octets) = []
jobs_of account (Bound place kind) = BoundJob (account_octet place) (receives kind) ∷ []
jobs_of account (Submit pdu priority) = asked_with (header_in pdu) (SubmitJob (account_of account) pdu)
jobs_of account (Query pdu) = asked_with (header_in pdu) (QueryJob (account_of account) pdu)
jobs_of account (Cancel pdu) = asked_with (header_in pdu) (CancelJob (account_of account) pdu)
jobs_of account (DeliverAnswered number is_accepted) = []
jobs_of account (BindRefused status name) = []
jobs_of account Unbound = UnboundJob ∷ []

abbrev pub account_behind : Option ℕ → Action → Option ℕ
account_behind account (Bound place kind) = Some (account_octet place)
account_behind account Unbound = None
account_behind account action = account

-- the jobs of actions in order, each once
abbrev pub jobs_from : Option ℕ → List Action → List Job
jobs_from account [] = []
jobs_from account (action ∷ actions) = jobs_of account action ++ jobs_from (account_behind account action) actions

abbrev pub account_from : Option ℕ → List Action → Option ℕ
account_from account [] = account
account_from account (action ∷ actions) = account_from (account_behind account action) actions

-- the requests of an action
abbrev pub pending_with : Option Header → Request → List PendingRequest
pending_with None request = []
pending_with (Some header) request = pending request header ∷ []

abbrev pub requests_of : Action → List PendingRequest
requests_of (Submit pdu priority) = pending_with (header_in pdu) SubmitRequest
requests_of (Query pdu) = pending_with (header_in pdu) QueryRequest
requests_of (Cancel pdu) = pending_with (header_in pdu) CancelRequest
requests_of action = []

abbrev pub requests_from : List Action → List PendingRequest
requests_from [] = []
requests_from (action ∷ actions) = requests_of action ++ requests_from actions

abbrev pub octets_sent : Action → List ℕ
octets_sent (Send octets) = octets
octets_sent action = []

abbrev pub sends_from : List Action → List ℕ
sends_from [] = []
sends_from (action ∷ actions) = octets_sent action ++ sends_from actions

-- ---- what answers lead to

abbrev pub Answered : Type 0
Answered = PendingRequest × CentreAnswer

-- the requests at the front that were handed back
abbrev pub throttled_among : List PendingRequest → List Answered
throttled_among [] = []
throttled_among (request ∷ requests) = if request.is_throttled then (request, Refused ESME_RTHROTTLED) ∷ throttled_among requests else []

-- the oldest request has the answer, and those behind it that were handed back are answered too
abbrev pub answered_among : List PendingRequest → CentreAnswer → List Answered
answered_among [] answer = []
answered_among (request ∷ requests) answer = (request, answer) ∷ throttled_among requests

abbrev pub octets_or_none : Option (List ℕ) → List ℕ
octets_or_none None = []
octets_or_none (Some octets) = octets

abbrev pub responses : SessionView → List Answered → List ℕ
responses session [] = []
responses session (answered ∷ others) =
    octets_or_none (response session.conversation answered.0 answered.1) ++ responses (after_answered answered.0.sequence_number session) others

-- the calls of the session for them, and what these give
abbrev pub reply_to : Answered → ReplyOf
reply_to answered = (answered.0.sequence_number, answer_to answered.0.request answered.1)

abbrev pub answer_call : Answered → Call
answer_call answered = call_of (reply_to answered)

abbrev pub answer_actions : SessionView → List Answered → List Action
answer_actions session [] = []
answer_actions session (answered ∷ others) =
    sending (response session.conversation answered.0 answered.1) ++ answer_actions (after_answered answered.0.sequence_number session) others

abbrev pub after_all_answered : SessionView → List Answered → SessionView
after_all_answered session [] = session
after_all_answered session (answered ∷ others) = after_all_answered (after_answered answered.0.sequence_number session) others

-- ---- courses

pub data EsmeCall : Type 0 where
  At : ℕ → EsmeCall
  -- it is told which accounts are full
  TellFull : List Bool → EsmeCall
  -- these octets arrived
  Take : List ℕ → EsmeCall
  Hear : Reply → EsmeCall
  -- the server sends these octets by itself
  Say : List ℕ → EsmeCall
  -- so many octets were sent
  WasSent : ℕ → EsmeCall
  -- the application is asked to leave
  Leave : EsmeCall
  -- a job is handed out, and the seat puts it
  Put : EsmeCall
  -- a job is handed out, and handed back since there is no room for it
  PutBack : EsmeCall
  -- an operator is told the next of what happened
  Tell : EsmeCall

pub record EsmeProgress : Type 0 where
  pub esme : EsmeView
  -- the calls of the session, and all that it gave
  pub calls : List Call
  pub given : List Action
  -- its actions that were to be done, with an Unbound where the session says by its mark alone that an account is bound no longer
  pub actions : List Action
  -- the requests that were answered, each with its answer
  pub answers : List Answered
  -- all octets that were to be sent, and those that were
  pub said : List ℕ
  pub sent : List ℕ
  -- the jobs that were handed out and not taken back
  pub left : List Job

abbrev pub started : List Account → EsmeProgress
started accounts = record { esme = opened accounts; calls = []; given = []; actions = []; answers = []; said = []; sent = []; left = [] }

abbrev pub with_esme : EsmeView → EsmeProgress → EsmeProgress
with_esme e c = record c { esme = e }

abbrev pub lost_bind : Bool → List Action
lost_bind true = Unbound ∷ []
lost_bind false = []

abbrev pub after_fed : List ℕ → SessionView × List Action → EsmeProgress → EsmeProgress
after_fed octets f c = record c {
  esme = taken octets c.esme;
  calls = c.calls ++ Feed octets ∷ [];
  given = c.given ++ f.1;
  actions = c.actions ++ (f.1 ++ lost_bind (is_bind_lost c.esme.session.conversation.state f.1 f.0.conversation.state));
  said = c.said ++ sends_from f.1;
}

abbrev pub after_told : List Bool → EsmeProgress → EsmeProgress
after_told full c = record c { esme = told full c.esme; calls = c.calls ++ FullCall full ∷ [] }

abbrev pub after_answers : List Answered → EsmeView → EsmeProgress → EsmeProgress
after_answers answers e c = record c {
  esme = e;
  calls = c.calls ++ map answer_call answers;
  given = c.given ++ answer_actions c.esme.session answers;
  answers = c.answers ++ answers;
  said = c.said ++ responses c.esme.session answers;
}

abbrev pub after_asked : Option (List ℕ) → EsmeView → EsmeProgress → EsmeProgress
after_asked octets e c = record c {
  esme = e;
  calls = c.calls ++ UnbindCall ∷ [];
  given = c.given ++ sending octets;
  said = c.said ++ octets_or_none octets;
}

abbrev pub after_delivered : Final → SessionView × List Action → EsmeProgress → EsmeProgress
after_delivered end f c = record c {
  esme = heard (Receipt end) c.esme;
  calls = c.calls ++ Deliver (receipt_of end) ∷ [];
  given = c.given ++ f.1;
  said = c.said ++ sends_from f.1;
}

abbrev pub heard_by : Reply → EsmeProgress → EsmeProgress
heard_by (Answer answer) c = after_answers (answered_among c.esme.waiting answer) (heard (Answer answer) c.esme) c
heard_by (Receipt end) c =
    if is_sendable end then after_delivered end (called c.esme.session (Deliver (receipt_of end))) c else with_esme (heard (Receipt end) c.esme) c
heard_by (Frame octets) c = c
heard_by Taken c = c

abbrev pub sent_part : ℕ → List ℕ → List ℕ
sent_part count octets = if nat_le count (length octets) then take count octets else []

abbrev pub with_left : Job → EsmeView → EsmeProgress → EsmeProgress
with_left job e c = record c { esme = e; left = c.left ++ job ∷ [] }

abbrev pub put_by : Option Job × EsmeView → EsmeProgress → EsmeProgress
put_by (None, e) c = with_esme e c
put_by (Some job, e) c = with_left job e c

-- a request that is not handed out again is answered in its turn
abbrev pub taken_back : Job → EsmeView → Bool × EsmeView → EsmeProgress → EsmeProgress
taken_back job before (true, e) c = with_esme e c
taken_back job before (false, e) c =
    with_left job e (after_answers (throttled_among (throttled_before (requests_among before.outbox.jobs) before.waiting)) e c)

abbrev pub put_back_by : Option Job × EsmeView → EsmeProgress → EsmeProgress
put_back_by (None, e) c = with_esme e c
put_back_by (Some job, e) c = taken_back job e (handed_back job e) c

-- one call
abbrev pub called_once : EsmeProgress → EsmeCall → EsmeProgress
called_once c (At now) = with_esme (at_time now c.esme) c
called_once c (TellFull full) = after_told full c
called_once c (Take octets) = after_fed octets (fed c.esme.session octets) c
called_once c (Hear reply) = heard_by reply c
called_once c (Say octets) = record c { esme = saying octets c.esme; said = c.said ++ octets }
called_once c (WasSent count) = record c { esme = sent count c.esme; sent = c.sent ++ sent_part count c.esme.outbox.octets }
called_once c Leave = after_asked (unbinding c.esme.session.conversation.state) (asked_to_leave c.esme).1 c
called_once c Put = put_by (handed_out c.esme) c
called_once c PutBack = put_back_by (handed_out c.esme) c
called_once c Tell = with_esme (next_note c.esme).1 c

-- calls one after the other
abbrev pub called_all : EsmeProgress → List EsmeCall → EsmeProgress
called_all c [] = c
called_all c (call ∷ calls) = called_all (called_once c call) calls

-- ---- what is claimed

-- the jobs that are not answers to receipts
abbrev pub is_of_session : Job → Bool
is_of_session (DeliverAnsweredJob id is_accepted) = false
is_of_session job = true

abbrev pub of_session : List Job → List Job
of_session [] = []
of_session (job ∷ jobs) = if is_of_session job then job ∷ of_session jobs else of_session jobs

-- all jobs: those that were handed out, and those that wait
abbrev pub all_jobs : EsmeProgress → List Job
all_jobs c = c.left ++ c.esme.outbox.jobs

-- a request as it was passed up
abbrev pub fresh : PendingRequest → PendingRequest
fresh request = record request { is_throttled = false }

abbrev pub number_of : PendingRequest → ℕ
number_of request = request.sequence_number

abbrev pub request_of : Answered → PendingRequest
request_of answered = answered.0

-- all requests: those that were answered, and those that wait for it
abbrev pub all_requests : EsmeProgress → List PendingRequest
all_requests c = map fresh (map request_of c.answers ++ c.esme.waiting)

-- While fewer than three binds were wrong: the session is that of its calls, and the jobs are those of its actions. Its requests
-- are answered in order, each once; the session owes those that wait. What was sent and what waits is all that was to be sent.
pub record IsEsmeProgress (accounts : List Account) (c : EsmeProgress) : Type 0 where
  pub session : ran (opened_session accounts, []) c.calls ≡ (c.esme.session, c.given)
  pub jobs : of_session (all_jobs c) ≡ jobs_from None c.actions
  pub account : c.esme.account ≡ account_from None c.actions
  pub requests : all_requests c ≡ requests_from c.actions
  pub owed : c.esme.session.conversation.owed ≡ map number_of c.esme.waiting
  pub connected : IsConnected c.calls
  pub octets : c.sent ++ c.esme.outbox.octets ≡ c.said
  pub is_open : c.esme.outbox.is_closed ≡ false

-- No job is added but for receipts that are handed back, and nothing is sent any more.
pub record IsAfterEnd (before c : EsmeProgress) : Type 0 where
  pub jobs : of_session (all_jobs c) ≡ of_session (all_jobs before)
  pub octets : c.esme.outbox.octets ≡ []
