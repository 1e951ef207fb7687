-- The actions of a session, one after the other.
use Rattle.std.proofs.Common.{◌≡◌, ◌≢◌, ℕ, ◌-◌, Bool, true, false, cond, eqb, List, [], ◌∷◌, ◌++◌, length, Option, Some, None, refl, sym, ap, subst, ◌∙◌, append_assoc, append-nil}
use Rattle.std.proofs.lemmas.Bool.{ne_eqb}
use Rattle.smpp_pdu.specs.declared.header.Header.{Header}
use Rattle.smpp_pdu.specs.Statuses.{status_number}
use Rattle.smpp_pdu.specs.declared.status.CommandStatus.{CommandStatus}
use Rattle.smpp_session.specs.declared.action.Action.{Action}
use Rattle.smpp_session.specs.declared.action.Action.TheVariants.{Send, Bound, Submit, Query, Cancel, DeliverAnswered, BindRefused, Unbound}
use Rattle.smpp_session.specs.declared.answer.Request.{Request}
use Rattle.smpp_session.specs.declared.answer.Request.TheVariants.{Submit as SubmitRequest, Query as QueryRequest, Cancel as CancelRequest}
use Rattle.smpp_session.specs.Bindings.{is_bind_lost}
use Rattle.smpp_session.specs.Sessions.{SessionView, fed}
use Rattle.sms_centre_spec.specs.declared.jobs.job.Job.{Job}
use Rattle.sms_centre_spec.specs.declared.jobs.job.Job.TheVariants.{Bound as BoundJob, Unbound as UnboundJob, DeliverAnswered as DeliverAnsweredJob}
use Rattle.smsc_endpoint.specs.declared.pending.PendingRequest.{PendingRequest}
use Rattle.smsc_endpoint.specs.EsmeView.{EsmeView}
use Rattle.smsc_endpoint.specs.EsmeCalls.{account_octet, account_of, acted, acted_all, acted_next, bind_refused, bound_wrongly, closed_where, counting_received, header_in}
use Rattle.smsc_endpoint.specs.EsmeCalls.{is_wrong, noting, passed_with, receipt_answered, receives, request_job, sending_pdu, taken, unbound_where, with_session, wrong_where}
use Rattle.smsc_loop.specs.declared.note.Note.TheVariants.{BindRefused as BindRefusedNote}
use Rattle.smsc_endpoint.specs.BindName.{shown_name}
use Rattle.smsc_endpoint.specs.EsmeRuns.{account_behind, account_from, asked_with, is_of_session, jobs_from, jobs_of, lost_bind, octets_sent, of_session}
use Rattle.smsc_endpoint.specs.EsmeRuns.{pending_with, requests_from, requests_of, sends_from}
use Rattle.smsc_endpoint.specs.Outbox.{OutboxView, with_octets}
use Rattle.smsc_endpoint.specs.SentReceipts.{found_under}
use Rattle.smsc_endpoint.proofs.Throttling.{acted_more}

-- ---- lists

abbrev one_of_session : Bool → Job → List Job → List Job
one_of_session is job jobs = cond is (job ∷ jobs) jobs

one_append : (is : Bool) (job : Job) (xs ys : List Job) → one_of_session is job (xs ++ ys) ≡ one_of_session is job xs ++ ys
one_append true job xs ys = refl
one_append false job xs ys = refl

pub session_append : (xs ys : List Job) → of_session (xs ++ ys) ≡ of_session xs ++ of_session ys
session_append [] ys = refl
session_append (x ∷ xs) ys =
    ap (one_of_session (is_of_session x) x) (session_append xs ys) ∙ one_append (is_of_session x) x (of_session xs) (of_session ys)

pub jobs_append : (account : Option ℕ) (xs ys : List Action) → jobs_from account (xs ++ ys) ≡ jobs_from account xs ++ jobs_from (account_from account xs) ys
jobs_append account [] ys = refl
jobs_append account (x ∷ xs) ys =
    ap (λ (js : List Job). jobs_of account x ++ js) (jobs_append (account_behind account x) xs ys)
    ∙ sym (append_assoc (jobs_of account x) (jobs_from (account_behind account x) xs) (jobs_from (account_from (account_behind account x) xs) ys))

pub account_append : (account : Option ℕ) (xs ys : List Action) → account_from account (xs ++ ys) ≡ account_from (account_from account xs) ys
account_append account [] ys = refl
account_append account (x ∷ xs) ys = account_append (account_behind account x) xs ys

pub requests_append : (xs ys : List Action) → requests_from (xs ++ ys) ≡ requests_from xs ++ requests_from ys
requests_append [] ys = refl
requests_append (x ∷ xs) ys =
    ap (λ (rs : List PendingRequest). requests_of x ++ rs) (requests_append xs ys) ∙ sym (append_assoc (requests_of x) (requests_from xs) (requests_from ys))

pub sends_append : (xs ys : List Action) → sends_from (xs ++ ys) ≡ sends_from xs ++ sends_from ys
sends_append [] ys = refl
sends_append (x ∷ xs) ys = ap (λ (os : List ℕ). octets_sent x ++ os) (sends_append xs ys) ∙ sym (append_assoc (octets_sent x) (sends_from xs) (sends_from ys))

-- ---- one action

-- the session as it was, with the jobs, the requests and the octets of one action
pub record IsOne (e : EsmeView) (action : Action) (d : EsmeView) : Type 0 where
  pub session : d.session ≡ e.session
  pub account : d.account ≡ account_behind e.account action
  pub jobs : of_session d.outbox.jobs ≡ of_session e.outbox.jobs ++ jobs_of e.account action
  pub waiting : d.waiting ≡ e.waiting ++ requests_of action
  pub octets : d.outbox.octets ≡ e.outbox.octets ++ octets_sent action
  pub is_open : d.outbox.is_closed ≡ false

none_more : {A : Type 0} (xs : List A) → xs ≡ xs ++ []
none_more xs = sym (append-nil xs)

-- a refused bind changes no more than how long octets are held
record IsHeld (e d : EsmeView) : Type 0 where
  pub session : d.session ≡ e.session
  pub account : d.account ≡ e.account
  pub waiting : d.waiting ≡ e.waiting
  pub outbox : d.outbox ≡ e.outbox

same_held : (e : EsmeView) → IsHeld e e
same_held e = record { session = refl; account = refl; waiting = refl; outbox = refl }

wrongly_held : (e : EsmeView) → (bound_wrongly e).wrong_binds ≢ 0 → IsHeld e (bound_wrongly e)
wrongly_held e some =
    let last : eqb (e.wrong_binds - 1) 0 ≡ false = ne_eqb _ _ some in
    record { session = ap (λ (b : Bool). closed_where b e.session) last; account = refl; waiting = refl; outbox = refl }

wrong_if : (b : Bool) (e : EsmeView) → (wrong_where b e).wrong_binds ≢ 0 → IsHeld e (wrong_where b e)
wrong_if true e some = wrongly_held e some
wrong_if false e some = same_held e

refused_held : (status : CommandStatus) (name : List ℕ) (e : EsmeView) → (bind_refused status name e).wrong_binds ≢ 0 → IsHeld e (bind_refused status name e)
refused_held status name e some =
    let h = wrong_if (is_wrong status) (noting (BindRefusedNote (status_number status) (shown_name name)) e) some in
    record { session = h.session; account = h.account; waiting = h.waiting; outbox = h.outbox }

open_octets : (octets : List ℕ) (w : OutboxView) → w.is_closed ≡ false → with_octets octets w ≡ record w { octets = w.octets ++ octets }
open_octets octets w is_open = rw is_open refl

refused_one : (status : CommandStatus) (name : List ℕ) (e d : EsmeView) → IsHeld e d → e.outbox.is_closed ≡ false → IsOne e (BindRefused status name) d
refused_one status name e d held is_open = record {
  session = held.session;
  account = held.account;
  jobs = ap (λ (w : OutboxView). of_session w.jobs) held.outbox ∙ none_more (of_session e.outbox.jobs);
  waiting = held.waiting ∙ none_more e.waiting;
  octets = ap (λ (w : OutboxView). w.octets) held.outbox ∙ none_more e.outbox.octets;
  is_open = ap (λ (w : OutboxView). w.is_closed) held.outbox ∙ is_open;
}

send_one : (octets : List ℕ) (e : EsmeView) → e.outbox.is_closed ≡ false → IsOne e (Send octets) (sending_pdu octets e)
send_one octets e is_open =
    let box = open_octets octets e.outbox is_open in record {
      session = refl;
      account = refl;
      jobs = ap (λ (w : OutboxView). of_session w.jobs) box ∙ none_more (of_session e.outbox.jobs);
      waiting = none_more e.waiting;
      octets = ap (λ (w : OutboxView). w.octets) box;
      is_open = ap (λ (w : OutboxView). w.is_closed) box ∙ is_open;
    }

request_of_session : (request : Request) (account : ℕ) (pdu : List ℕ) → of_session (request_job request account pdu ∷ []) ≡ request_job request account pdu ∷ []
request_of_session SubmitRequest account pdu = refl
request_of_session QueryRequest account pdu = refl
request_of_session CancelRequest account pdu = refl

pub record IsPassed (e : EsmeView) (header : Option Header) (request : Request) (pdu : List ℕ) (d : EsmeView) : Type 0 where
  pub session : d.session ≡ e.session
  pub account : d.account ≡ e.account
  pub jobs : of_session d.outbox.jobs ≡ of_session e.outbox.jobs ++ asked_with header (request_job request (account_of e.account) pdu)
  pub waiting : d.waiting ≡ e.waiting ++ pending_with header request
  pub octets : d.outbox.octets ≡ e.outbox.octets
  pub closed : d.outbox.is_closed ≡ e.outbox.is_closed

passed_one : (header : Option Header) (request : Request) (pdu : List ℕ) (e : EsmeView) → IsPassed e header request pdu (passed_with header request pdu e)
passed_one None request pdu e = record {
  session = refl;
  account = refl;
  jobs = none_more (of_session e.outbox.jobs);
  waiting = none_more e.waiting;
  octets = refl;
  closed = refl;
}
passed_one (Some header) request pdu e = record {
  session = refl;
  account = refl;
  jobs = session_append e.outbox.jobs (request_job request (account_of e.account) pdu ∷ [])
      ∙ ap (λ (js : List Job). of_session e.outbox.jobs ++ js) (request_of_session request (account_of e.account) pdu);
  waiting = refl;
  octets = refl;
  closed = refl;
}

answered_one_receipt : (found : Option (ℕ × ℕ)) (number : ℕ) (is_accepted : Bool) (e : EsmeView) → e.outbox.is_closed ≡ false
    → IsOne e (DeliverAnswered number is_accepted) (receipt_answered found is_accepted e)
answered_one_receipt None number is_accepted e is_open = record {
  session = refl;
  account = refl;
  jobs = none_more (of_session e.outbox.jobs);
  waiting = none_more e.waiting;
  octets = none_more e.outbox.octets;
  is_open = is_open;
}
answered_one_receipt (Some found) number is_accepted e is_open = record {
  session = refl;
  account = refl;
  jobs = session_append e.outbox.jobs (DeliverAnsweredJob found.1 is_accepted ∷ []);
  waiting = none_more e.waiting;
  octets = none_more e.outbox.octets;
  is_open = is_open;
}

pub acted_one : (action : Action) (e : EsmeView) → e.outbox.is_closed ≡ false → (acted action e).wrong_binds ≢ 0 → IsOne e action (acted action e)
acted_one (Send octets) e is_open some = send_one octets e is_open
acted_one (BindRefused status name) e is_open some = refused_one status name e (bind_refused status name e) (refused_held status name e some) is_open
acted_one (Bound place kind) e is_open some = record {
  session = refl;
  account = refl;
  jobs = session_append e.outbox.jobs (BoundJob (account_octet place) (receives kind) ∷ []);
  waiting = none_more e.waiting;
  octets = none_more e.outbox.octets;
  is_open = is_open;
}
acted_one (Submit pdu priority) e is_open some =
    let p = passed_one (header_in pdu) SubmitRequest pdu e in
    record { session = p.session; account = p.account; jobs = p.jobs; waiting = p.waiting; octets = p.octets ∙ none_more e.outbox.octets; is_open = p.closed ∙ is_open }
acted_one (Query pdu) e is_open some =
    let p = passed_one (header_in pdu) QueryRequest pdu e in
    record { session = p.session; account = p.account; jobs = p.jobs; waiting = p.waiting; octets = p.octets ∙ none_more e.outbox.octets; is_open = p.closed ∙ is_open }
acted_one (Cancel pdu) e is_open some =
    let p = passed_one (header_in pdu) CancelRequest pdu e in
    record { session = p.session; account = p.account; jobs = p.jobs; waiting = p.waiting; octets = p.octets ∙ none_more e.outbox.octets; is_open = p.closed ∙ is_open }
acted_one (DeliverAnswered number is_accepted) e is_open some = answered_one_receipt (found_under number e.receipts) number is_accepted e is_open
acted_one Unbound e is_open some = record {
  session = refl;
  account = refl;
  jobs = session_append e.outbox.jobs (UnboundJob ∷ []);
  waiting = none_more e.waiting;
  octets = none_more e.outbox.octets;
  is_open = is_open;
}

-- ---- actions in order

pub record AreActed (e : EsmeView) (actions : List Action) (d : EsmeView) : Type 0 where
  pub session : d.session ≡ e.session
  pub account : d.account ≡ account_from e.account actions
  pub jobs : of_session d.outbox.jobs ≡ of_session e.outbox.jobs ++ jobs_from e.account actions
  pub waiting : d.waiting ≡ e.waiting ++ requests_from actions
  pub octets : d.outbox.octets ≡ e.outbox.octets ++ sends_from actions
  pub is_open : d.outbox.is_closed ≡ false

none_acted : (e : EsmeView) → e.outbox.is_closed ≡ false → AreActed e [] e
none_acted e is_open = record {
  session = refl;
  account = refl;
  jobs = none_more (of_session e.outbox.jobs);
  waiting = none_more e.waiting;
  octets = none_more e.outbox.octets;
  is_open = is_open;
}

first_acted : (e d f : EsmeView) (action : Action) (actions : List Action) → IsOne e action d → AreActed d actions f → AreActed e (action ∷ actions) f
first_acted e d f action actions one rest = record {
  session = rest.session ∙ one.session;
  account = rest.account ∙ ap (λ (a : Option ℕ). account_from a actions) one.account;
  jobs = rest.jobs
      ∙ (ap (λ (js : List Job). js ++ jobs_from d.account actions) one.jobs
      ∙ (append_assoc (of_session e.outbox.jobs) (jobs_of e.account action) (jobs_from d.account actions)
      ∙ ap (λ (a : Option ℕ). of_session e.outbox.jobs ++ (jobs_of e.account action ++ jobs_from a actions)) one.account));
  waiting = rest.waiting
      ∙ (ap (λ (rs : List PendingRequest). rs ++ requests_from actions) one.waiting ∙ append_assoc e.waiting (requests_of action) (requests_from actions));
  octets = rest.octets
      ∙ (ap (λ (os : List ℕ). os ++ sends_from actions) one.octets ∙ append_assoc e.outbox.octets (octets_sent action) (sends_from actions));
  is_open = rest.is_open;
}

stays : (e : EsmeView) (action : Action) → e.wrong_binds ≡ 0 → acted_next e action ≡ e
stays e action z = ap (λ (n : ℕ). cond (eqb n 0) e (acted action e)) z

pub all_stay : (actions : List Action) (e : EsmeView) → e.wrong_binds ≡ 0 → acted_all e actions ≡ e
all_stay [] e z = refl
all_stay (action ∷ actions) e z = ap (λ (d : EsmeView). acted_all d actions) (stays e action z) ∙ all_stay actions e z

goes : (e : EsmeView) (action : Action) → e.wrong_binds ≢ 0 → acted_next e action ≡ acted action e
goes e action some = let no : eqb e.wrong_binds 0 ≡ false = ne_eqb _ _ some in ap (λ (b : Bool). cond b e (acted action e)) no

was_some : (actions : List Action) (e : EsmeView) → (acted_all e actions).wrong_binds ≢ 0 → e.wrong_binds ≢ 0
was_some actions e some = λ z. some (ap (λ (d : EsmeView). d.wrong_binds) (all_stay actions e z) ∙ z)

pub acted_are : (actions : List Action) (e : EsmeView) → e.outbox.is_closed ≡ false → (acted_all e actions).wrong_binds ≢ 0 → AreActed e actions (acted_all e actions)
acted_are [] e is_open some = none_acted e is_open
acted_are (action ∷ actions) e is_open some =
    let next_some : (acted_next e action).wrong_binds ≢ 0 = was_some actions (acted_next e action) some in
    let e_some : e.wrong_binds ≢ 0 = λ z. next_some (ap (λ (d : EsmeView). d.wrong_binds) (stays e action z) ∙ z) in
    let is = goes e action e_some in
    let one = acted_one action e is_open (λ z. next_some (ap (λ (d : EsmeView). d.wrong_binds) is ∙ z)) in
    let d = acted_next e action in
    let one_here : IsOne e action d = subst (IsOne e action) (sym is) one in
    first_acted e d (acted_all d actions) action actions one_here (acted_are actions d one_here.is_open some)

-- ---- octets that arrived

lost_last : (b : Bool) (e : EsmeView) (actions : List Action) → unbound_where b (acted_all e actions) ≡ acted_all e (actions ++ lost_bind b)
lost_last true e actions = sym (acted_more e actions Unbound)
lost_last false e actions = ap (acted_all e) (none_more actions)

abbrev pub actions_of : EsmeView → SessionView × List Action → List Action
actions_of e f = f.1 ++ lost_bind (is_bind_lost e.session.conversation.state f.1 f.0.conversation.state)

pub taken_is : (octets : List ℕ) (e : EsmeView)
    → taken octets e ≡ acted_all (with_session (fed e.session octets).0 (counting_received (length octets) e)) (actions_of e (fed e.session octets))
taken_is octets e =
    let f = fed e.session octets in
    lost_last (is_bind_lost e.session.conversation.state f.1 f.0.conversation.state) (with_session f.0 (counting_received (length octets) e)) f.1

no_sends : (b : Bool) → sends_from (lost_bind b) ≡ []
no_sends true = refl
no_sends false = refl

pub sends_of_all : (e : EsmeView) (f : SessionView × List Action) → sends_from (actions_of e f) ≡ sends_from f.1
sends_of_all e f =
    let b = is_bind_lost e.session.conversation.state f.1 f.0.conversation.state in
    sends_append f.1 (lost_bind b) ∙ (ap (λ (os : List ℕ). sends_from f.1 ++ os) (no_sends b) ∙ append-nil (sends_from f.1))
