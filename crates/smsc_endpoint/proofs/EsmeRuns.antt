-- What holds of an application's session over any calls.
use Rattle.std.proofs.Common.{◌≡◌, ◌≢◌, ◌&&◌, ℕ, ◌-◌, zero, suc, Bool, true, false, cond, leb, ltb, List, [], ◌∷◌, ◌++◌, length, map, take, drop, Option, Some, None, refl, sym, ap, subst, ◌∙◌, append_assoc, append-nil}
use Rattle.std.proofs.lemmas.List.{map-append, take-append-drop}
use Rattle.std.specs.Prelude.{slice_get, slice_set}
use Rattle.smpp_pdu.specs.declared.header.Header.{Header}
use Rattle.smpp_pdu.specs.declared.status.CommandStatus.TheVariants.{ESME_RTHROTTLED}
use Rattle.smpp_pdu.specs.Writing.{written}
use Rattle.smpp_session.specs.declared.account.Account.{Account}
use Rattle.smpp_session.specs.declared.action.Action.{Action}
use Rattle.smpp_session.specs.declared.action.Action.TheVariants.{Send, Bound, Submit, Query, Cancel, DeliverAnswered, BindRefused, Unbound}
use Rattle.smpp_session.specs.declared.answer.Request.{Request}
use Rattle.smpp_session.specs.declared.calling.Call.{Call}
use Rattle.smpp_session.specs.declared.calling.Call.TheVariants.{Full as FullCall, Feed, Deliver, Unbind as UnbindCall}
use Rattle.smpp_session.specs.declared.fault.DeliverFault.{DeliverFault}
use Rattle.smpp_session.specs.declared.answer.Answer.{Answer as AnswerOf}
use Rattle.smpp_session.specs.declared.conversation.SessionState.{SessionState}
use Rattle.smpp_session.specs.declared.conversation.Conversation.{Conversation}
use Rattle.smpp_session.specs.declared.conversation.SessionState.TheVariants.{Opened, BoundTx, BoundRx, BoundTrx, Unbinding, Finishing, Broken, Closed}
use Rattle.smpp_session.specs.Answers.{answer_pdu, answered, is_last, last_unbind, owed_behind}
use Rattle.smpp_session.specs.Bindings.{is_bind_lost, is_bound, is_closed}
use Rattle.smpp_session.specs.Stream.{header_at}
use Rattle.smpp_session.specs.declared.answer.Request.TheVariants.{Submit as SubmitRequest, Query as QueryRequest, Cancel as CancelRequest}
use Rattle.smpp_session.specs.Calls.{and_then, called, delivering, ran, sending}
use Rattle.smpp_session.specs.Owing.{IsConnected, numbers_in, numbers_passed}
use Rattle.smpp_session.specs.SessionTable.{closed_conversation, has_settled, unbind_resp_to}
use Rattle.smpp_session.specs.Windows.{without}
use Rattle.smpp_session.specs.Sessions.{SessionView, after_answered, after_delivery, after_unbind, deliver_pdu, delivery_fault, fed, for_version, may_unbind, number_to_send, opened as opened_session, unbinding, with_full}
use Rattle.smpp_session.proofs.Cuts.{ran-append, ran_one}
use Rattle.smpp_session.proofs.Owing.{fed_owed, first_gone, opened_owes, settled_none}
use Rattle.sms_centre_spec.specs.declared.answer.CentreAnswer.{CentreAnswer}
use Rattle.sms_centre_spec.specs.declared.answer.CentreAnswer.TheVariants.{Refused}
use Rattle.sms_centre_spec.specs.declared.jobs.job.Job.{Job}
use Rattle.sms_centre_spec.specs.declared.jobs.job.Job.TheVariants.{DeliverAnswered as DeliverAnsweredJob}
use Rattle.sms_centre_spec.specs.declared.jobs.reply.Reply.TheVariants.{Answer, Receipt, Frame, Taken}
use Rattle.sms_centre_spec.specs.jobs.Requests.{is_request}
use Rattle.sms_receipt.specs.declared.final_message.Final.{Final}
use Rattle.sms_receipt.specs.Receipts.{receipt_of}
use Rattle.smsc_loop.specs.declared.note.Note.{Note}
use Rattle.smsc_endpoint.specs.declared.pending.PendingRequest.{PendingRequest}
use Rattle.smsc_endpoint.specs.EsmeView.{EsmeView}
use Rattle.smsc_endpoint.specs.EsmeCalls.{answered_first, answered_next, first_note, answered_one, asked_to_leave, at_time, counting_received, counting_sent, handing, header_in, heard, is_sendable}
use Rattle.smsc_endpoint.specs.EsmeCalls.{receipt_by, refused_receipt, request_back, responding, saying, taken}
use Rattle.smsc_endpoint.specs.EsmeCalls.{throttled_first, throttled_next, with_session}
use Rattle.smsc_endpoint.specs.EsmeRuns.{Answered, EsmeCall, EsmeProgress, IsEsmeProgress}
use Rattle.smsc_endpoint.specs.EsmeRuns.{account_from, after_all_answered, after_answers, after_asked, after_delivered, after_fed, after_told, all_requests, answer_actions, answer_call, answered_among, called_all, called_once}
use Rattle.smsc_endpoint.specs.EsmeRuns.{fresh, jobs_from, lost_bind, number_of, of_session, octets_or_none, pending_with, put_back_by, put_by, request_of, requests_from}
use Rattle.smsc_endpoint.specs.EsmeRuns.{requests_of, responses, sends_from, started, taken_back, throttled_among, with_esme, with_left}
use Rattle.smsc_endpoint.specs.EsmeRuns.{At, TellFull, Take, Hear, Say, WasSent, Leave, Put, PutBack, Tell}
use Rattle.smsc_endpoint.specs.Outbox.{OutboxView, next_among, requests_among, is_request_first, with_next, with_octets}
use Rattle.smsc_endpoint.specs.PendingRequests.{left_without, throttled, throttled_at, throttled_before, with_throttled}
use Rattle.smsc_endpoint.specs.Responses.{answer_to, response}
use Rattle.smsc_endpoint.proofs.EsmeActions.{AreActed, acted_are, account_append, actions_of, all_stay, jobs_append, requests_append, sends_of_all, session_append, taken_is}

-- ---- requests as they were passed up

abbrev fresh_all : List PendingRequest → List PendingRequest
fresh_all requests = map fresh requests

fresh_append : (xs ys : List PendingRequest) → fresh_all (xs ++ ys) ≡ fresh_all xs ++ fresh_all ys
fresh_append xs ys = map-append fresh xs ys

fresh_with : (header : Option Header) (request : Request) → fresh_all (pending_with header request) ≡ pending_with header request
fresh_with None request = refl
fresh_with (Some header) request = refl

fresh_of : (action : Action) → fresh_all (requests_of action) ≡ requests_of action
fresh_of (Send octets) = refl
fresh_of (Bound place kind) = refl
fresh_of (Submit pdu priority) = fresh_with _ _
fresh_of (Query pdu) = fresh_with _ _
fresh_of (Cancel pdu) = fresh_with _ _
fresh_of (DeliverAnswered number is_accepted) = refl
fresh_of (BindRefused status name) = refl
fresh_of Unbound = refl

fresh_from : (actions : List Action) → fresh_all (requests_from actions) ≡ requests_from actions
fresh_from [] = refl
fresh_from (action ∷ actions) =
    fresh_append (requests_of action) (requests_from actions)
    ∙ (ap (λ (rs : List PendingRequest). rs ++ fresh_all (requests_from actions)) (fresh_of action)
    ∙ ap (λ (rs : List PendingRequest). requests_of action ++ rs) (fresh_from actions))

set_fresh : (requests : List PendingRequest) (place : ℕ) (request : PendingRequest) → slice_get requests place ≡ Some request
    → fresh_all (slice_set requests place (throttled request)) ≡ fresh_all requests
set_fresh [] place request e = absurd cc
set_fresh (first ∷ requests) zero request e =
    let same : first ≡ request = cc in
    ap (λ (r : PendingRequest). fresh r ∷ fresh_all requests) (sym same)
set_fresh (first ∷ requests) (suc place) request e = ap (λ (rs : List PendingRequest). fresh first ∷ rs) (set_fresh requests place request e)

with_fresh : (place : ℕ) (requests : List PendingRequest) (found : Option PendingRequest) → slice_get requests place ≡ found
    → fresh_all (with_throttled place requests found) ≡ fresh_all requests
with_fresh place requests None e = refl
with_fresh place requests (Some request) e = set_fresh requests place request e

before_if : (b : Bool) (place : ℕ) (requests : List PendingRequest) → fresh_all (cond b (throttled_at place requests) requests) ≡ fresh_all requests
before_if true place requests = with_fresh place requests (slice_get requests place) refl
before_if false place requests = refl

throttled_fresh : (behind : ℕ) (requests : List PendingRequest) → fresh_all (throttled_before behind requests) ≡ fresh_all requests
throttled_fresh behind requests = before_if (ltb behind (length requests)) (length requests - 1 - behind) requests

-- ---- answers

-- the session answers requests at the front, and no more
pub record IsAnsweredBy (e : EsmeView) (answers : List Answered) (d : EsmeView) : Type 0 where
  pub session : d.session ≡ after_all_answered e.session answers
  pub account : d.account ≡ e.account
  pub wrong_binds : d.wrong_binds ≡ e.wrong_binds
  pub jobs : d.outbox.jobs ≡ e.outbox.jobs
  pub waiting : e.waiting ≡ map request_of answers ++ d.waiting
  pub octets : d.outbox.octets ≡ e.outbox.octets ++ responses e.session answers
  pub is_open : d.outbox.is_closed ≡ false

none_answered : (e : EsmeView) → e.outbox.is_closed ≡ false → IsAnsweredBy e [] e
none_answered e is_open = record {
  session = refl;
  account = refl;
  wrong_binds = refl;
  jobs = refl;
  waiting = refl;
  octets = sym (append-nil e.outbox.octets);
  is_open = is_open;
}

record IsSaid (e : EsmeView) (more : List ℕ) (d : EsmeView) : Type 0 where
  pub session : d.session ≡ e.session
  pub account : d.account ≡ e.account
  pub wrong_binds : d.wrong_binds ≡ e.wrong_binds
  pub jobs : d.outbox.jobs ≡ e.outbox.jobs
  pub waiting : d.waiting ≡ e.waiting
  pub octets : d.outbox.octets ≡ e.outbox.octets ++ more
  pub is_open : d.outbox.is_closed ≡ false

said_is : (octets : List ℕ) (e : EsmeView) → e.outbox.is_closed ≡ false → IsSaid e octets (saying octets e)
said_is octets e is_open =
    let box : with_octets octets e.outbox ≡ record e.outbox { octets = e.outbox.octets ++ octets } = rw is_open refl in record {
      session = refl;
      account = refl;
      wrong_binds = refl;
      jobs = ap (λ (w : OutboxView). w.jobs) box;
      waiting = refl;
      octets = ap (λ (w : OutboxView). w.octets) box;
      is_open = ap (λ (w : OutboxView). w.is_closed) box ∙ is_open;
    }

responded_is : (octets : Option (List ℕ)) (e : EsmeView) → e.outbox.is_closed ≡ false → IsSaid e (octets_or_none octets) (responding octets e)
responded_is None e is_open = record {
  session = refl;
  account = refl;
  wrong_binds = refl;
  jobs = refl;
  waiting = refl;
  octets = sym (append-nil e.outbox.octets);
  is_open = is_open;
}
responded_is (Some octets) e is_open =
    let s = said_is octets e is_open in
    record { session = refl; account = refl; wrong_binds = refl; jobs = s.jobs; waiting = refl; octets = s.octets; is_open = s.is_open }

-- the request has its answer, which is not said yet
abbrev one_left : PendingRequest → List PendingRequest → EsmeView → EsmeView
one_left request requests e =
    record e { session = after_answered request.sequence_number e.session; waiting = requests; with_keeper = left_without request e.with_keeper }

one_answered : (request : PendingRequest) (requests : List PendingRequest) (answer : CentreAnswer) (e : EsmeView) → e.waiting ≡ request ∷ requests → e.outbox.is_closed ≡ false
    → IsAnsweredBy e ((request, answer) ∷ []) (answered_one request requests answer e)
one_answered request requests answer e is is_open =
    let before = one_left request requests e in
    let octets = response e.session.conversation request answer in
    let s = responded_is octets before is_open in record {
      session = s.session;
      account = s.account;
      wrong_binds = s.wrong_binds;
      jobs = s.jobs;
      waiting = is ∙ ap (λ (rs : List PendingRequest). request ∷ rs) (sym s.waiting);
      octets = s.octets ∙ ap (λ (os : List ℕ). e.outbox.octets ++ os) (sym (append-nil (octets_or_none octets)));
      is_open = s.is_open;
    }

responses_append : (session : SessionView) (answers others : List Answered)
    → responses session (answers ++ others) ≡ responses session answers ++ responses (after_all_answered session answers) others
responses_append session [] others = refl
responses_append session (answer ∷ answers) others =
    let said = octets_or_none (response session.conversation answer.0 answer.1) in
    let after = after_answered answer.0.sequence_number session in
    ap (λ (os : List ℕ). said ++ os) (responses_append after answers others)
    ∙ sym (append_assoc said (responses after answers) (responses (after_all_answered after answers) others))

after_append : (session : SessionView) (answers others : List Answered) → after_all_answered session (answers ++ others) ≡ after_all_answered (after_all_answered session answers) others
after_append session [] others = refl
after_append session (answer ∷ answers) others = after_append (after_answered answer.0.sequence_number session) answers others

then_answered : (e d f : EsmeView) (answers others : List Answered) → IsAnsweredBy e answers d → IsAnsweredBy d others f → IsAnsweredBy e (answers ++ others) f
then_answered e d f answers others h g = record {
  session = g.session ∙ (ap (λ (s : SessionView). after_all_answered s others) h.session ∙ sym (after_append e.session answers others));
  account = g.account ∙ h.account;
  wrong_binds = g.wrong_binds ∙ h.wrong_binds;
  jobs = g.jobs ∙ h.jobs;
  waiting = h.waiting
      ∙ (ap (λ (rs : List PendingRequest). map request_of answers ++ rs) g.waiting
      ∙ (sym (append_assoc (map request_of answers) (map request_of others) f.waiting)
      ∙ ap (λ (rs : List PendingRequest). rs ++ f.waiting) (sym (map-append request_of answers others))));
  octets = g.octets
      ∙ (ap (λ (s : SessionView). d.outbox.octets ++ responses s others) h.session
      ∙ (ap (λ (os : List ℕ). os ++ responses (after_all_answered e.session answers) others) h.octets
      ∙ (append_assoc e.outbox.octets (responses e.session answers) (responses (after_all_answered e.session answers) others)
      ∙ ap (λ (os : List ℕ). e.outbox.octets ++ os) (sym (responses_append e.session answers others)))));
  is_open = g.is_open;
}

left_waiting : (request : PendingRequest) (requests : List PendingRequest) (answer : CentreAnswer) (e : EsmeView) → e.outbox.is_closed ≡ false
    → (answered_one request requests answer e).waiting ≡ requests
left_waiting request requests answer e is_open =
    (responded_is (response e.session.conversation request answer) (one_left request requests e) is_open).waiting

throttled_by : (b : Bool) (request : PendingRequest) (requests : List PendingRequest) (e after : EsmeView) → e.outbox.is_closed ≡ false
    → IsAnsweredBy e ((request, Refused ESME_RTHROTTLED) ∷ []) after → IsAnsweredBy after (throttled_among requests) (throttled_first requests after)
    → IsAnsweredBy e (cond b ((request, Refused ESME_RTHROTTLED) ∷ throttled_among requests) []) (cond b (throttled_first requests after) e)
throttled_by true request requests e after is_open one rest =
    then_answered e after (throttled_first requests after) ((request, Refused ESME_RTHROTTLED) ∷ []) (throttled_among requests) one rest
throttled_by false request requests e after is_open one rest = none_answered e is_open

throttled_are : (requests : List PendingRequest) (e : EsmeView) → e.waiting ≡ requests → e.outbox.is_closed ≡ false → IsAnsweredBy e (throttled_among requests) (throttled_first requests e)
throttled_are [] e is is_open = none_answered e is_open
throttled_are (request ∷ requests) e is is_open =
    let after = answered_one request requests (Refused ESME_RTHROTTLED) e in
    let one = one_answered request requests (Refused ESME_RTHROTTLED) e is is_open in
    throttled_by request.is_throttled request requests e after is_open one
    (throttled_are requests after (left_waiting request requests (Refused ESME_RTHROTTLED) e is_open) one.is_open)

pub next_throttled : (e : EsmeView) → e.outbox.is_closed ≡ false → IsAnsweredBy e (throttled_among e.waiting) (throttled_next e)
next_throttled e is_open = throttled_are e.waiting e refl is_open

pub first_answered : (requests : List PendingRequest) (answer : CentreAnswer) (e : EsmeView) → e.waiting ≡ requests → e.outbox.is_closed ≡ false
    → IsAnsweredBy e (answered_among requests answer) (throttled_next (answered_first requests answer e))
first_answered [] answer e is is_open =
    subst (λ (rs : List PendingRequest). IsAnsweredBy e [] (throttled_first rs e)) (sym is) (none_answered e is_open)
first_answered (request ∷ requests) answer e is is_open =
    let after = answered_one request requests answer e in
    let one = one_answered request requests answer e is is_open in
    let rest = subst (λ (rs : List PendingRequest). IsAnsweredBy after (throttled_among rs) (throttled_next after)) (left_waiting request requests answer e is_open) (next_throttled after one.is_open) in
    then_answered e after (throttled_next after) ((request, answer) ∷ []) (throttled_among requests) one rest

-- ---- a course goes on

-- the requests that were answered and those that wait are all requests
answered_requests : (c : EsmeProgress) (answers : List Answered) (d : EsmeView) → IsAnsweredBy c.esme answers d
    → map fresh (map request_of (c.answers ++ answers) ++ d.waiting) ≡ all_requests c
answered_requests c answers d h =
    ap fresh_all
    (ap (λ (rs : List PendingRequest). rs ++ d.waiting) (map-append request_of c.answers answers)
    ∙ (append_assoc (map request_of c.answers) (map request_of answers) d.waiting
    ∙ ap (λ (rs : List PendingRequest). map request_of c.answers ++ rs) (sym h.waiting)))

octets_more : (c : EsmeProgress) (octets more : List ℕ) → c.sent ++ c.esme.outbox.octets ≡ c.said → octets ≡ c.esme.outbox.octets ++ more → c.sent ++ octets ≡ c.said ++ more
octets_more c octets more h e =
    ap (λ (os : List ℕ). c.sent ++ os) e ∙ (sym (append_assoc c.sent c.esme.outbox.octets more) ∙ ap (λ (os : List ℕ). os ++ more) h)

abbrev session_pair : SessionView → List Action → SessionView × List Action
session_pair session given = (session, given)

-- what the session owes when these have their answers
owed_left : (answers : List Answered) (left : List PendingRequest) (session : SessionView) → session.conversation.owed ≡ map number_of (map request_of answers ++ left)
    → (after_all_answered session answers).conversation.owed ≡ map number_of left
owed_left [] left session e = e
owed_left (answer ∷ answers) left session e =
    let rest = map number_of (map request_of answers ++ left) in
    let behind : owed_behind answer.0.sequence_number session.conversation ≡ rest =
    ap (without answer.0.sequence_number) e ∙ first_gone answer.0.sequence_number rest in
    owed_left answers left (after_answered answer.0.sequence_number session) (by_last (is_last answer.0.sequence_number session.conversation) refl behind) where
      by_last : (b : Bool) → is_last answer.0.sequence_number session.conversation ≡ b → owed_behind answer.0.sequence_number session.conversation ≡ map number_of (map request_of answers ++ left)
          → (cond b (closed_conversation session.conversation) (record session.conversation { owed = owed_behind answer.0.sequence_number session.conversation })).owed ≡ map number_of (map request_of answers ++ left)
      by_last true l behind = sym (settled_none session.conversation.state (owed_behind answer.0.sequence_number session.conversation) l) ∙ behind
      by_last false l behind = behind

-- the calls for answers, one after the other
answers_run : (answers : List Answered) (session : SessionView) (given : List Action)
    → ran (session, given) (map answer_call answers) ≡ session_pair (after_all_answered session answers) (given ++ answer_actions session answers)
answers_run [] session given = ap (λ (acts : List Action). session_pair session acts) (sym (append-nil given))
answers_run (answer ∷ answers) session given =
    let after = after_answered answer.0.sequence_number session in
    let said = sending (response session.conversation answer.0 answer.1) in
    answers_run answers after (given ++ said)
    ∙ ap (λ (acts : List Action). session_pair (after_all_answered after answers) acts) (append_assoc given said (answer_actions after answers))

connected_more : (calls more : List Call) → IsConnected calls → IsConnected more → IsConnected (calls ++ more)
connected_more [] more h g = g
connected_more (call ∷ calls) more h g = (h.0, connected_more calls more h.1 g)

answers_connected : (answers : List Answered) → IsConnected (map answer_call answers)
answers_connected [] = tt
answers_connected (answer ∷ answers) = (refl, answers_connected answers)

answered_progress : (accounts : List Account) (c : EsmeProgress) (answers : List Answered) (d : EsmeView) → IsEsmeProgress accounts c → IsAnsweredBy c.esme answers d
    → IsEsmeProgress accounts (after_answers answers d c)
answered_progress accounts c answers d h a = record {
  session = ran-append (opened_session accounts, []) c.calls (map answer_call answers)
      ∙ (ap (λ (q : SessionView × List Action). ran q (map answer_call answers)) h.session
      ∙ (answers_run answers c.esme.session c.given
      ∙ ap (λ (s : SessionView). session_pair s (c.given ++ answer_actions c.esme.session answers)) (sym a.session)));
  jobs = ap (λ (js : List Job). of_session (c.left ++ js)) a.jobs ∙ h.jobs;
  account = a.account ∙ h.account;
  requests = answered_requests c answers d a ∙ h.requests;
  owed = ap (λ (s : SessionView). s.conversation.owed) a.session ∙ owed_left answers d.waiting c.esme.session (h.owed ∙ ap (map number_of) a.waiting);
  connected = connected_more c.calls (map answer_call answers) h.connected (answers_connected answers);
  octets = octets_more c d.outbox.octets (responses c.esme.session answers) h.octets a.octets;
  is_open = a.is_open;
}

-- it is told which accounts are full
full_progress : (accounts : List Account) (full : List Bool) (c : EsmeProgress) → IsEsmeProgress accounts c → IsEsmeProgress accounts (after_told full c)
full_progress accounts full c h = record {
  session = ran_one (opened_session accounts, []) (c.esme.session, c.given) (with_full full c.esme.session, c.given ++ []) c.calls (FullCall full) h.session refl
      ∙ ap (session_pair (with_full full c.esme.session)) (append-nil c.given);
  jobs = h.jobs;
  account = h.account;
  requests = h.requests;
  owed = h.owed;
  connected = connected_more c.calls (FullCall full ∷ []) h.connected (refl, tt);
  octets = h.octets;
  is_open = h.is_open;
}

-- the application is asked to leave
leave_progress : (accounts : List Account) (c : EsmeProgress) → IsEsmeProgress accounts c
    → IsEsmeProgress accounts (after_asked (unbinding c.esme.session.conversation.state) (asked_to_leave c.esme).1 c)
leave_progress accounts c h =
    let octets = unbinding c.esme.session.conversation.state in
    let after = after_unbind c.esme.session in
    let s = responded_is octets (with_session after c.esme) h.is_open in record {
      session = ran_one (opened_session accounts, []) (c.esme.session, c.given) (after, c.given ++ sending octets) c.calls UnbindCall h.session refl
          ∙ ap (λ (v : SessionView). session_pair v (c.given ++ sending octets)) (sym s.session);
      jobs = ap (λ (js : List Job). of_session (c.left ++ js)) s.jobs ∙ h.jobs;
      account = s.account ∙ h.account;
      requests = ap (λ (rs : List PendingRequest). fresh_all (map request_of c.answers ++ rs)) s.waiting ∙ h.requests;
      owed = ap (λ (v : SessionView). v.conversation.owed) s.session
          ∙ (unbinding_owed (may_unbind c.esme.session.conversation.state) c.esme.session.conversation ∙ (h.owed ∙ ap (map number_of) (sym s.waiting)));
      connected = connected_more c.calls (UnbindCall ∷ []) h.connected (refl, tt);
      octets = octets_more c (responding octets (with_session after c.esme)).outbox.octets (octets_or_none octets) h.octets s.octets;
      is_open = s.is_open;
    } where
      unbinding_owed : (b : Bool) (v : Conversation) → (cond b (record v { state = Unbinding }) v).owed ≡ v.owed
      unbinding_owed true v = refl
      unbinding_owed false v = refl

said_progress : (accounts : List Account) (c : EsmeProgress) (octets : List ℕ) → IsEsmeProgress accounts c
    → IsEsmeProgress accounts (record c { esme = saying octets c.esme; said = c.said ++ octets })
said_progress accounts c octets h =
    let s = said_is octets c.esme h.is_open in record {
      session = h.session;
      jobs = ap (λ (js : List Job). of_session (c.left ++ js)) s.jobs ∙ h.jobs;
      account = h.account;
      requests = h.requests;
      owed = h.owed;
      connected = h.connected;
      octets = octets_more c (saying octets c.esme).outbox.octets octets h.octets s.octets;
      is_open = s.is_open;
    }

sent_if : (accounts : List Account) (b : Bool) (count : ℕ) (c : EsmeProgress) → IsEsmeProgress accounts c
    → IsEsmeProgress accounts (record c {
      esme = counting_sent count (record c.esme { outbox = cond b (record c.esme.outbox { octets = drop count c.esme.outbox.octets }) c.esme.outbox });
      sent = c.sent ++ cond b (take count c.esme.outbox.octets) [];
    })
sent_if accounts true count c h = record {
  session = h.session;
  jobs = h.jobs;
  account = h.account;
  requests = h.requests;
  owed = h.owed;
  connected = h.connected;
  octets = append_assoc c.sent (take count c.esme.outbox.octets) (drop count c.esme.outbox.octets)
      ∙ (ap (λ (os : List ℕ). c.sent ++ os) (take-append-drop count c.esme.outbox.octets) ∙ h.octets);
  is_open = h.is_open;
}
sent_if accounts false count c h = record {
  session = h.session;
  jobs = h.jobs;
  account = h.account;
  requests = h.requests;
  owed = h.owed;
  connected = h.connected;
  octets = ap (λ (os : List ℕ). os ++ c.esme.outbox.octets) (append-nil c.sent) ∙ h.octets;
  is_open = h.is_open;
}

time_progress : (accounts : List Account) (now : ℕ) (c : EsmeProgress) → IsEsmeProgress accounts c → IsEsmeProgress accounts (with_esme (at_time now c.esme) c)
time_progress accounts now c h =
    record { session = h.session; jobs = h.jobs; account = h.account; requests = h.requests; owed = h.owed; connected = h.connected; octets = h.octets; is_open = h.is_open }

-- ---- octets that arrived

-- a session that has closed by itself owes nothing
closed_none : (accounts : List Account) (c : EsmeProgress) → IsEsmeProgress accounts c → c.esme.session.conversation.state ≡ Closed → c.esme.session.conversation.owed ≡ []
closed_none accounts c h closed =
    sym (ap (λ (q : SessionView × List Action). q.0.conversation.owed) h.session)
    ∙ (opened_owes accounts c.calls h.connected).none (ap (λ (q : SessionView × List Action). q.0.conversation.state) h.session ∙ closed)

numbers_with : (b : Bool) (header : Header) (request : Request) → map number_of (pending_with (cond b None (Some header)) request) ≡ cond b [] (header.sequence_number ∷ [])
numbers_with true header request = refl
numbers_with false header request = refl

numbers_of_all : (actions : List Action) → map number_of (requests_from actions) ≡ numbers_passed actions
numbers_of_all [] = refl
numbers_of_all (Send octets ∷ actions) = numbers_of_all actions
numbers_of_all (Bound place kind ∷ actions) = numbers_of_all actions
numbers_of_all (Submit octets priority ∷ actions) =
    map-append number_of (pending_with (header_in octets) SubmitRequest) (requests_from actions)
    ∙ (ap (λ (ns : List ℕ). ns ++ map number_of (requests_from actions)) (numbers_with (ltb (length octets) 16) (header_at octets) SubmitRequest)
    ∙ ap (λ (ns : List ℕ). numbers_in octets ++ ns) (numbers_of_all actions))
numbers_of_all (Query octets ∷ actions) =
    map-append number_of (pending_with (header_in octets) QueryRequest) (requests_from actions)
    ∙ (ap (λ (ns : List ℕ). ns ++ map number_of (requests_from actions)) (numbers_with (ltb (length octets) 16) (header_at octets) QueryRequest)
    ∙ ap (λ (ns : List ℕ). numbers_in octets ++ ns) (numbers_of_all actions))
numbers_of_all (Cancel octets ∷ actions) =
    map-append number_of (pending_with (header_in octets) CancelRequest) (requests_from actions)
    ∙ (ap (λ (ns : List ℕ). ns ++ map number_of (requests_from actions)) (numbers_with (ltb (length octets) 16) (header_at octets) CancelRequest)
    ∙ ap (λ (ns : List ℕ). numbers_in octets ++ ns) (numbers_of_all actions))
numbers_of_all (DeliverAnswered number is_accepted ∷ actions) = numbers_of_all actions
numbers_of_all (BindRefused status name ∷ actions) = numbers_of_all actions
numbers_of_all (Unbound ∷ actions) = numbers_of_all actions

no_numbers : (b : Bool) (actions : List Action) → requests_from (actions ++ lost_bind b) ≡ requests_from actions
no_numbers true actions = requests_append actions (Unbound ∷ []) ∙ append-nil (requests_from actions)
no_numbers false actions = ap requests_from (append-nil actions)

numbers_from : (e : EsmeView) (f : SessionView × List Action) → map number_of (requests_from (actions_of e f)) ≡ numbers_passed f.1
numbers_from e f =
    ap (map number_of) (no_numbers (is_bind_lost e.session.conversation.state f.1 f.0.conversation.state) f.1) ∙ numbers_of_all f.1

fed_progress : (accounts : List Account) (octets : List ℕ) (c : EsmeProgress) → IsEsmeProgress accounts c → (taken octets c.esme).wrong_binds ≢ 0
    → IsEsmeProgress accounts (after_fed octets (fed c.esme.session octets) c)
fed_progress accounts octets c h some =
    let f = fed c.esme.session octets in
    let acts = actions_of c.esme f in
    let is = taken_is octets c.esme in
    let before = with_session f.0 (counting_received (length octets) c.esme) in
    let a = subst (AreActed before acts) (sym is) (acted_are acts before h.is_open (λ z. some (ap (λ (d : EsmeView). d.wrong_binds) is ∙ z))) in
    let d = taken octets c.esme in
    let account : c.esme.account ≡ account_from None c.actions = h.account in record {
      session = ran_one (opened_session accounts, []) (c.esme.session, c.given) (f.0, c.given ++ f.1) c.calls (Feed octets) h.session refl
          ∙ ap (λ (s : SessionView). session_pair s (c.given ++ f.1)) (sym a.session);
      jobs = session_append c.left d.outbox.jobs
          ∙ (ap (λ (js : List Job). of_session c.left ++ js) a.jobs
          ∙ (sym (append_assoc (of_session c.left) (of_session c.esme.outbox.jobs) (jobs_from c.esme.account acts))
          ∙ (ap (λ (js : List Job). js ++ jobs_from c.esme.account acts) (sym (session_append c.left c.esme.outbox.jobs) ∙ h.jobs)
          ∙ (ap (λ (who : Option ℕ). jobs_from None c.actions ++ jobs_from who acts) account ∙ sym (jobs_append None c.actions acts)))));
      account = a.account ∙ (ap (λ (who : Option ℕ). account_from who acts) account ∙ sym (account_append None c.actions acts));
      requests = ap fresh_all (ap (λ (rs : List PendingRequest). map request_of c.answers ++ rs) a.waiting ∙ sym (append_assoc (map request_of c.answers) c.esme.waiting (requests_from acts)))
          ∙ (fresh_append (map request_of c.answers ++ c.esme.waiting) (requests_from acts)
          ∙ (ap (λ (rs : List PendingRequest). rs ++ fresh_all (requests_from acts)) h.requests
          ∙ (ap (λ (rs : List PendingRequest). requests_from c.actions ++ rs) (fresh_from acts) ∙ sym (requests_append c.actions acts))));
      owed = ap (λ (s : SessionView). s.conversation.owed) a.session
          ∙ (fed_owed c.esme.session octets (closed_none accounts c h)
          ∙ (ap (λ (ns : List ℕ). ns ++ numbers_passed f.1) h.owed
          ∙ (ap (λ (ns : List ℕ). map number_of c.esme.waiting ++ ns) (sym (numbers_from c.esme f))
          ∙ (sym (map-append number_of c.esme.waiting (requests_from acts)) ∙ ap (map number_of) (sym a.waiting)))));
      connected = connected_more c.calls (Feed octets ∷ []) h.connected (refl, tt);
      octets = octets_more c d.outbox.octets (sends_from f.1) h.octets (a.octets ∙ ap (λ (os : List ℕ). c.esme.outbox.octets ++ os) (sends_of_all c.esme f));
      is_open = a.is_open;
    }

-- ---- receipts

refused_jobs : (jobs : List Job) (id : ℕ) → of_session (jobs ++ DeliverAnsweredJob id false ∷ []) ≡ of_session jobs
refused_jobs jobs id = session_append jobs (DeliverAnsweredJob id false ∷ []) ∙ append-nil (of_session jobs)

pub refused_all : (left jobs : List Job) (id : ℕ) → of_session (left ++ (jobs ++ DeliverAnsweredJob id false ∷ [])) ≡ of_session (left ++ jobs)
refused_all left jobs id = ap of_session (sym (append_assoc left jobs (DeliverAnsweredJob id false ∷ []))) ∙ refused_jobs (left ++ jobs) id

refused_progress : (accounts : List Account) (id : ℕ) (c : EsmeProgress) → IsEsmeProgress accounts c → IsEsmeProgress accounts (with_esme (refused_receipt id c.esme) c)
refused_progress accounts id c h = record {
  session = h.session;
  jobs = refused_all c.left c.esme.outbox.jobs id ∙ h.jobs;
  account = h.account;
  requests = h.requests;
  owed = h.owed;
  connected = h.connected;
  octets = h.octets;
  is_open = h.is_open;
}

delivered_progress : (accounts : List Account) (fault : Option DeliverFault) (end : Final) (c : EsmeProgress) → IsEsmeProgress accounts c → delivery_fault c.esme.session.conversation ≡ fault
    → (let f = delivering c.esme.session (receipt_of end) fault in
    IsEsmeProgress accounts (record c { esme = receipt_by fault end c.esme; calls = c.calls ++ Deliver (receipt_of end) ∷ []; given = c.given ++ f.1; said = c.said ++ sends_from f.1 }))
delivered_progress accounts None end c h is =
    let octets = written (deliver_pdu (number_to_send c.esme.session.conversation) (for_version c.esme.session.conversation.interface_version (receipt_of end))) in
    let s = said_is octets c.esme h.is_open in record {
      session = ran_one (opened_session accounts, []) (c.esme.session, c.given) (after_delivery c.esme.session, c.given ++ Send octets ∷ []) c.calls (Deliver (receipt_of end)) h.session
          (ap (λ (fault : Option DeliverFault). and_then (c.esme.session, c.given) (delivering c.esme.session (receipt_of end) fault)) (sym is));
      jobs = ap (λ (js : List Job). of_session (c.left ++ js)) s.jobs ∙ h.jobs;
      account = h.account;
      requests = h.requests;
      owed = h.owed;
      connected = connected_more c.calls (Deliver (receipt_of end) ∷ []) h.connected (refl, tt);
      octets = octets_more c (saying octets c.esme).outbox.octets octets h.octets s.octets ∙ ap (λ (os : List ℕ). c.said ++ os) (sym (append-nil octets));
      is_open = s.is_open;
    }
delivered_progress accounts (Some fault) end c h is = record {
  session = ran_one (opened_session accounts, []) (c.esme.session, c.given) (c.esme.session, c.given ++ []) c.calls (Deliver (receipt_of end)) h.session
      (ap (λ (fault : Option DeliverFault). and_then (c.esme.session, c.given) (delivering c.esme.session (receipt_of end) fault)) (sym is));
  jobs = refused_all c.left c.esme.outbox.jobs end.id ∙ h.jobs;
  account = h.account;
  requests = h.requests;
  owed = h.owed;
  connected = connected_more c.calls (Deliver (receipt_of end) ∷ []) h.connected (refl, tt);
  octets = h.octets ∙ sym (append-nil c.said);
  is_open = h.is_open;
}

receipt_if : (accounts : List Account) (b : Bool) (end : Final) (c : EsmeProgress) → IsEsmeProgress accounts c
    → IsEsmeProgress accounts (cond b
    (record (after_delivered end (called c.esme.session (Deliver (receipt_of end))) c) { esme = cond b (receipt_by (delivery_fault c.esme.session.conversation) end c.esme) (refused_receipt end.id c.esme) })
    (with_esme (cond b (receipt_by (delivery_fault c.esme.session.conversation) end c.esme) (refused_receipt end.id c.esme)) c))
receipt_if accounts true end c h = delivered_progress accounts (delivery_fault c.esme.session.conversation) end c h refl
receipt_if accounts false end c h = refused_progress accounts end.id c h

-- ---- jobs that go

pub gone_all : (left jobs rest : List Job) (job : Job) → jobs ≡ job ∷ rest → (left ++ job ∷ []) ++ rest ≡ left ++ jobs
gone_all left jobs rest job e = append_assoc left (job ∷ []) rest ∙ ap (λ (js : List Job). left ++ js) (sym e)

fresh_numbers : (requests : List PendingRequest) → map number_of (fresh_all requests) ≡ map number_of requests
fresh_numbers [] = refl
fresh_numbers (request ∷ requests) = ap (λ (ns : List ℕ). request.sequence_number ∷ ns) (fresh_numbers requests)

-- the job has gone
gone_progress : (accounts : List Account) (c : EsmeProgress) (job : Job) (d : EsmeView) → IsEsmeProgress accounts c → c.esme.outbox.jobs ≡ job ∷ d.outbox.jobs
    → d.session ≡ c.esme.session → d.account ≡ c.esme.account → fresh_all d.waiting ≡ fresh_all c.esme.waiting → d.outbox.octets ≡ c.esme.outbox.octets → d.outbox.is_closed ≡ false
    → IsEsmeProgress accounts (with_left job d c)
gone_progress accounts c job d h next session account waiting octets is_open = record {
  session = h.session ∙ ap (λ (s : SessionView). session_pair s c.given) (sym session);
  jobs = ap of_session (gone_all c.left c.esme.outbox.jobs d.outbox.jobs job next) ∙ h.jobs;
  account = account ∙ h.account;
  requests = fresh_append (map request_of c.answers) d.waiting
      ∙ (ap (λ (rs : List PendingRequest). fresh_all (map request_of c.answers) ++ rs) waiting ∙ (sym (fresh_append (map request_of c.answers) c.esme.waiting) ∙ h.requests));
  owed = ap (λ (s : SessionView). s.conversation.owed) session ∙ (h.owed ∙ (sym (fresh_numbers c.esme.waiting) ∙ (ap (map number_of) (sym waiting) ∙ fresh_numbers d.waiting)));
  connected = h.connected;
  octets = ap (λ (os : List ℕ). c.sent ++ os) octets ∙ h.octets;
  is_open = is_open;
}

put_if : (accounts : List Account) (busy : Bool) (jobs : List Job) (c : EsmeProgress) → IsEsmeProgress accounts c → c.esme.outbox.jobs ≡ jobs
    → IsEsmeProgress accounts (put_by (cond busy (None, c.esme) (handing (next_among jobs c.esme.outbox) c.esme)) c)
put_if accounts true jobs c h e = record { session = h.session; jobs = h.jobs; account = h.account; requests = h.requests; owed = h.owed; connected = h.connected; octets = h.octets; is_open = h.is_open }
put_if accounts false [] c h e = record { session = h.session; jobs = h.jobs; account = h.account; requests = h.requests; owed = h.owed; connected = h.connected; octets = h.octets; is_open = h.is_open }
put_if accounts false (job ∷ jobs) c h e =
    let next = handing (next_among (job ∷ jobs) c.esme.outbox) c.esme in
    gone_progress accounts c job next.1 h e refl refl refl refl h.is_open

back_if : (accounts : List Account) (is : Bool) (job : Job) (c : EsmeProgress) (d : EsmeView) → IsEsmeProgress accounts c → c.esme.outbox.jobs ≡ job ∷ d.outbox.jobs
    → d.session ≡ c.esme.session → d.account ≡ c.esme.account → d.waiting ≡ c.esme.waiting → d.outbox.octets ≡ c.esme.outbox.octets → d.outbox.is_closed ≡ false
    → IsEsmeProgress accounts (taken_back job d (cond is (false, request_back d) (true, record d { outbox = with_next job d.outbox })) c)
back_if accounts true job c d h next session account waiting octets is_open =
    let marked = throttled_before (requests_among d.outbox.jobs) d.waiting in
    let before = record d { waiting = marked; with_keeper = d.with_keeper - 1 } in
    let same : fresh_all marked ≡ fresh_all c.esme.waiting = throttled_fresh (requests_among d.outbox.jobs) d.waiting ∙ ap fresh_all waiting in
    let gone = gone_progress accounts c job before h next session account same octets is_open in
    let all = answered_progress accounts (with_left job before c) (throttled_among marked) (request_back d) gone (next_throttled before is_open) in
    subst (λ (s : SessionView). IsEsmeProgress accounts (record c {
      esme = request_back d;
      calls = c.calls ++ map answer_call (throttled_among marked);
      given = c.given ++ answer_actions s (throttled_among marked);
      answers = c.answers ++ throttled_among marked;
      said = c.said ++ responses s (throttled_among marked);
      left = c.left ++ job ∷ [];
    })) session all
back_if accounts false job c d h next session account waiting octets is_open = record {
  session = h.session ∙ ap (λ (s : SessionView). session_pair s c.given) (sym session);
  jobs = ap (λ (js : List Job). of_session (c.left ++ js)) (sym next) ∙ h.jobs;
  account = account ∙ h.account;
  requests = ap (λ (rs : List PendingRequest). fresh_all (map request_of c.answers ++ rs)) waiting ∙ h.requests;
  owed = ap (λ (s : SessionView). s.conversation.owed) session ∙ (h.owed ∙ ap (map number_of) (sym waiting));
  connected = h.connected;
  octets = ap (λ (os : List ℕ). c.sent ++ os) octets ∙ h.octets;
  is_open = is_open;
}

put_back_if : (accounts : List Account) (busy : Bool) (jobs : List Job) (c : EsmeProgress) → IsEsmeProgress accounts c → c.esme.outbox.jobs ≡ jobs
    → IsEsmeProgress accounts (put_back_by (cond busy (None, c.esme) (handing (next_among jobs c.esme.outbox) c.esme)) c)
put_back_if accounts true jobs c h e = record { session = h.session; jobs = h.jobs; account = h.account; requests = h.requests; owed = h.owed; connected = h.connected; octets = h.octets; is_open = h.is_open }
put_back_if accounts false [] c h e = record { session = h.session; jobs = h.jobs; account = h.account; requests = h.requests; owed = h.owed; connected = h.connected; octets = h.octets; is_open = h.is_open }
put_back_if accounts false (job ∷ jobs) c h e =
    let next = handing (next_among (job ∷ jobs) c.esme.outbox) c.esme in
    back_if accounts (is_request job) job c next.1 h e refl refl refl refl h.is_open

-- an operator is told what happened
told_progress : (accounts : List Account) (notes : List Note) (c : EsmeProgress) → IsEsmeProgress accounts c → IsEsmeProgress accounts (with_esme (first_note notes c.esme).1 c)
told_progress accounts [] c h = record { session = h.session; jobs = h.jobs; account = h.account; requests = h.requests; owed = h.owed; connected = h.connected; octets = h.octets; is_open = h.is_open }
told_progress accounts (note ∷ notes) c h = record { session = h.session; jobs = h.jobs; account = h.account; requests = h.requests; owed = h.owed; connected = h.connected; octets = h.octets; is_open = h.is_open }

-- ---- any calls

pub one_call : (accounts : List Account) (call : EsmeCall) (c : EsmeProgress) → IsEsmeProgress accounts c → (called_once c call).esme.wrong_binds ≢ 0 → IsEsmeProgress accounts (called_once c call)
one_call accounts (At now) c h some = time_progress accounts now c h
one_call accounts (TellFull full) c h some = full_progress accounts full c h
one_call accounts (Take octets) c h some = fed_progress accounts octets c h some
one_call accounts (Hear (Answer answer)) c h some =
    answered_progress accounts c (answered_among c.esme.waiting answer) (heard (Answer answer) c.esme) h (first_answered c.esme.waiting answer c.esme refl h.is_open)
one_call accounts (Hear (Receipt end)) c h some = receipt_if accounts (is_sendable end) end c h
one_call accounts (Hear (Frame octets)) c h some = h
one_call accounts (Hear Taken) c h some = h
one_call accounts (Say octets) c h some = said_progress accounts c octets h
one_call accounts (WasSent count) c h some = sent_if accounts (leb count (length c.esme.outbox.octets)) count c h
one_call accounts Leave c h some = leave_progress accounts c h
one_call accounts Put c h some = put_if accounts (is_request_first c.esme.outbox.jobs && leb 8 c.esme.with_keeper) c.esme.outbox.jobs c h refl
one_call accounts PutBack c h some = put_back_if accounts (is_request_first c.esme.outbox.jobs && leb 8 c.esme.with_keeper) c.esme.outbox.jobs c h refl
one_call accounts Tell c h some = told_progress accounts c.esme.notes c h

-- no call gives back a wrong bind

responding_binds : (octets : Option (List ℕ)) (e : EsmeView) → (responding octets e).wrong_binds ≡ e.wrong_binds
responding_binds None e = refl
responding_binds (Some octets) e = refl

binds_by : (b : Bool) (d e : EsmeView) → d.wrong_binds ≡ e.wrong_binds → (cond b d e).wrong_binds ≡ e.wrong_binds
binds_by true d e same = same
binds_by false d e same = refl

throttled_binds : (requests : List PendingRequest) (e : EsmeView) → (throttled_first requests e).wrong_binds ≡ e.wrong_binds
throttled_binds [] e = refl
throttled_binds (request ∷ requests) e =
    let after = answered_one request requests (Refused ESME_RTHROTTLED) e in
    let one : after.wrong_binds ≡ e.wrong_binds =
    responding_binds (response e.session.conversation request (Refused ESME_RTHROTTLED)) (one_left request requests e) in
    binds_by request.is_throttled (throttled_first requests after) e (throttled_binds requests after ∙ one)

first_binds : (requests : List PendingRequest) (answer : CentreAnswer) (e : EsmeView) → (answered_first requests answer e).wrong_binds ≡ e.wrong_binds
first_binds [] answer e = refl
first_binds (request ∷ requests) answer e = responding_binds (response e.session.conversation request answer) (one_left request requests e)

receipt_by_binds : (fault : Option DeliverFault) (end : Final) (e : EsmeView) → (receipt_by fault end e).wrong_binds ≡ e.wrong_binds
receipt_by_binds None end e = refl
receipt_by_binds (Some fault) end e = refl

receipt_binds : (b : Bool) (end : Final) (e : EsmeView) (fault : Option DeliverFault) → (cond b (receipt_by fault end e) (refused_receipt end.id e)).wrong_binds ≡ e.wrong_binds
receipt_binds true end e fault = receipt_by_binds fault end e
receipt_binds false end e fault = refl

pub heard_if : (b : Bool) (c d : EsmeProgress) (e : EsmeView) → c.esme ≡ e → d.esme ≡ e → (cond b c d).esme ≡ e
heard_if true c d e p q = p
heard_if false c d e p q = q

put_binds : (busy : Bool) (jobs : List Job) (c : EsmeProgress) → (put_by (cond busy (None, c.esme) (handing (next_among jobs c.esme.outbox) c.esme)) c).esme.wrong_binds ≡ c.esme.wrong_binds
put_binds true jobs c = refl
put_binds false [] c = refl
put_binds false (job ∷ jobs) c = refl

back_binds : (is : Bool) (job : Job) (c : EsmeProgress) (d : EsmeView) → (taken_back job d (cond is (false, request_back d) (true, record d { outbox = with_next job d.outbox })) c).esme.wrong_binds ≡ d.wrong_binds
back_binds true job c d = throttled_binds (throttled_before (requests_among d.outbox.jobs) d.waiting) (record d { waiting = throttled_before (requests_among d.outbox.jobs) d.waiting; with_keeper = d.with_keeper - 1 })
back_binds false job c d = refl

put_back_binds : (busy : Bool) (jobs : List Job) (c : EsmeProgress) → (put_back_by (cond busy (None, c.esme) (handing (next_among jobs c.esme.outbox) c.esme)) c).esme.wrong_binds ≡ c.esme.wrong_binds
put_back_binds true jobs c = refl
put_back_binds false [] c = refl
put_back_binds false (job ∷ jobs) c = back_binds (is_request job) job c (handing (next_among (job ∷ jobs) c.esme.outbox) c.esme).1

told_binds : (notes : List Note) (e : EsmeView) → (first_note notes e).1.wrong_binds ≡ e.wrong_binds
told_binds [] e = refl
told_binds (note ∷ notes) e = refl

stay_zero : (call : EsmeCall) (c : EsmeProgress) → c.esme.wrong_binds ≡ 0 → (called_once c call).esme.wrong_binds ≡ 0
stay_zero (At now) c z = z
stay_zero (TellFull full) c z = z
stay_zero (Take octets) c z =
    let f = fed c.esme.session octets in
    ap (λ (d : EsmeView). d.wrong_binds) (taken_is octets c.esme)
    ∙ (ap (λ (d : EsmeView). d.wrong_binds) (all_stay (actions_of c.esme f) (with_session f.0 (counting_received (length octets) c.esme)) z) ∙ z)
stay_zero (Hear (Answer answer)) c z =
    throttled_binds (answered_next answer c.esme).waiting (answered_next answer c.esme) ∙ (first_binds c.esme.waiting answer c.esme ∙ z)
stay_zero (Hear (Receipt end)) c z =
    let e = heard (Receipt end) c.esme in
    ap (λ (d : EsmeView). d.wrong_binds)
    (heard_if (is_sendable end) (after_delivered end (called c.esme.session (Deliver (receipt_of end))) c) (with_esme e c) e refl refl)
    ∙ (receipt_binds (is_sendable end) end c.esme (delivery_fault c.esme.session.conversation) ∙ z)
stay_zero (Hear (Frame octets)) c z = z
stay_zero (Hear Taken) c z = z
stay_zero (Say octets) c z = z
stay_zero (WasSent count) c z = z
stay_zero Leave c z = responding_binds (unbinding c.esme.session.conversation.state) (with_session (after_unbind c.esme.session) c.esme) ∙ z
stay_zero Put c z = put_binds (is_request_first c.esme.outbox.jobs && leb 8 c.esme.with_keeper) c.esme.outbox.jobs c ∙ z
stay_zero PutBack c z = put_back_binds (is_request_first c.esme.outbox.jobs && leb 8 c.esme.with_keeper) c.esme.outbox.jobs c ∙ z
stay_zero Tell c z = told_binds c.esme.notes c.esme ∙ z

pub all_zero : (calls : List EsmeCall) (c : EsmeProgress) → c.esme.wrong_binds ≡ 0 → (called_all c calls).esme.wrong_binds ≡ 0
all_zero [] c z = z
all_zero (call ∷ calls) c z = all_zero calls (called_once c call) (stay_zero call c z)

pub progress_holds : (accounts : List Account) (calls : List EsmeCall) (c : EsmeProgress) → IsEsmeProgress accounts c → (called_all c calls).esme.wrong_binds ≢ 0 → IsEsmeProgress accounts (called_all c calls)
progress_holds accounts [] c h some = h
progress_holds accounts (call ∷ calls) c h some =
    progress_holds accounts calls (called_once c call) (one_call accounts call c h (λ z. some (all_zero calls (called_once c call) z))) some

pub begins : (accounts : List Account) → IsEsmeProgress accounts (started accounts)
begins accounts = record { session = refl; jobs = refl; account = refl; requests = refl; owed = refl; connected = tt; octets = refl; is_open = refl }

-- ---- one answer

pub bound_goes : (state : SessionState) (owed : List ℕ) → is_bound state ≡ true → (is_closed state ≡ false) × (has_settled state owed ≡ false)
bound_goes Opened owed e = absurd cc
bound_goes BoundTx owed e = (refl, refl)
bound_goes BoundRx owed e = (refl, refl)
bound_goes BoundTrx owed e = (refl, refl)
bound_goes Unbinding owed e = (refl, refl)
bound_goes Finishing owed e = absurd cc
bound_goes Broken owed e = absurd cc
bound_goes Closed owed e = absurd cc

bound_answers : (c : Conversation) (number : ℕ) (answer : AnswerOf) → is_bound c.state ≡ true → octets_or_none (answered c number answer) ≡ written (answer_pdu number answer)
bound_answers c number answer e =
    let goes = bound_goes c.state (owed_behind number c) e in
    let octets = written (answer_pdu number answer) in
    ap (λ (b : Bool). octets_or_none (cond b None (Some (octets ++ unbind_resp_to (last_unbind number c))))) goes.0
    ∙ (ap (λ (b : Bool). octets ++ unbind_resp_to (cond b c.unbind None)) goes.1 ∙ append-nil octets)

pub oldest_answered : (e : EsmeView) (request : PendingRequest) (requests : List PendingRequest) (answer : CentreAnswer) → e.waiting ≡ request ∷ requests
    → is_bound e.session.conversation.state ≡ true → e.outbox.is_closed ≡ false
    → (heard (Answer answer) e).outbox.octets
    ≡ e.outbox.octets ++ (written (answer_pdu request.sequence_number (answer_to request.request answer)) ++ responses (after_answered request.sequence_number e.session) (throttled_among requests))
oldest_answered e request requests answer is bound is_open =
    let a = first_answered e.waiting answer e refl is_open in
    a.octets
    ∙ (ap (λ (rs : List PendingRequest). e.outbox.octets ++ responses e.session (answered_among rs answer)) is
    ∙ ap (λ (os : List ℕ). e.outbox.octets ++ (os ++ responses (after_answered request.sequence_number e.session) (throttled_among requests)))
    (bound_answers e.session.conversation request.sequence_number (answer_to request.request answer) bound))

-- ---- a session that is over

none_waits : (waiting : List PendingRequest) → map number_of waiting ≡ [] → waiting ≡ []
none_waits [] e = refl
none_waits (request ∷ waiting) e = absurd cc

-- A session that has closed by itself has answered each request that it took.
pub all_answered : (accounts : List Account) (c : EsmeProgress) → IsEsmeProgress accounts c → c.esme.session.conversation.state ≡ Closed
    → map fresh (map request_of c.answers) ≡ requests_from c.actions
all_answered accounts c h closed =
    let left : c.esme.waiting ≡ [] = none_waits c.esme.waiting (sym h.owed ∙ closed_none accounts c h closed) in
    ap fresh_all (sym (append-nil (map request_of c.answers))) ∙ (ap (λ (rs : List PendingRequest). fresh_all (map request_of c.answers ++ rs)) (sym left) ∙ h.requests)
