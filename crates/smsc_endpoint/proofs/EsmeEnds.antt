-- An application's session at a seat after its end.
use Rattle.std.proofs.Common.{◌≡◌, ◌&&◌, ℕ, ◌-◌, Bool, true, false, cond, leb, List, [], ◌∷◌, ◌++◌, length, drop, Option, Some, None, refl, sym, ap, ◌∙◌, append-nil}
use Rattle.sms_base.proofs.Bools.{and_false}
use Rattle.smpp_pdu.specs.declared.status.CommandStatus.TheVariants.{ESME_RTHROTTLED}
use Rattle.smpp_session.specs.declared.action.Action.{Action}
use Rattle.smpp_session.specs.declared.calling.Call.{Call}
use Rattle.smpp_session.specs.declared.calling.Call.TheVariants.{Feed, Deliver}
use Rattle.smpp_session.specs.declared.conversation.SessionState.{SessionState}
use Rattle.smpp_session.specs.declared.conversation.SessionState.TheVariants.{Unbinding, Closed}
use Rattle.smpp_session.specs.declared.fault.DeliverFault.{DeliverFault}
use Rattle.smpp_session.specs.declared.fault.DeliverFault.TheVariants.{NotBound}
use Rattle.smpp_session.specs.Bindings.{is_bind_lost, is_deaf}
use Rattle.smpp_session.specs.Answers.{is_last, owed_behind}
use Rattle.smpp_session.specs.Calls.{called, ran}
use Rattle.smpp_session.specs.Sessions.{SessionView, after_answered, after_unbind, delivery_fault, fault_in, fed, may_unbind, unbinding}
use Rattle.sms_centre_spec.specs.declared.answer.CentreAnswer.{CentreAnswer}
use Rattle.sms_centre_spec.specs.declared.answer.CentreAnswer.TheVariants.{Refused}
use Rattle.sms_centre_spec.specs.declared.jobs.job.Job.{Job}
use Rattle.sms_centre_spec.specs.declared.jobs.reply.Reply.TheVariants.{Answer, Receipt, Frame, Taken}
use Rattle.sms_centre_spec.specs.jobs.Requests.{is_request}
use Rattle.sms_receipt.specs.declared.final_message.Final.{Final}
use Rattle.sms_receipt.specs.Receipts.{receipt_of}
use Rattle.smsc_loop.specs.declared.note.Note.{Note}
use Rattle.smsc_endpoint.specs.declared.pending.PendingRequest.{PendingRequest}
use Rattle.smsc_endpoint.specs.EsmeView.{EsmeView}
use Rattle.smsc_endpoint.specs.EsmeCalls.{acted_all, answered_first, answered_next, answered_one, ended, first_note, handing, heard, is_sendable, receipt_by, refused_receipt}
use Rattle.smsc_endpoint.specs.EsmeCalls.{counting_received, counting_sent, request_back, responding, taken, throttled_first, throttled_next, with_session}
use Rattle.smsc_endpoint.specs.EsmeRuns.{EsmeCall, EsmeProgress, IsAfterEnd}
use Rattle.smsc_endpoint.specs.EsmeRuns.{after_delivered, all_jobs, called_all, called_once, lost_bind, of_session, put_back_by, put_by, taken_back, with_esme}
use Rattle.smsc_endpoint.specs.EsmeRuns.{At, TellFull, Take, Hear, Say, WasSent, Leave, Put, PutBack, Tell}
use Rattle.smsc_endpoint.specs.Outbox.{OutboxView, next_among, requests_among, is_request_first, with_next, with_octets}
use Rattle.smsc_endpoint.specs.PendingRequests.{left_without, throttled_before}
use Rattle.smsc_endpoint.specs.Responses.{response}
use Rattle.smsc_endpoint.proofs.EsmeActions.{actions_of, taken_is}
use Rattle.smsc_endpoint.proofs.EsmeRuns.{gone_all, heard_if, refused_all}
use Rattle.smsc_endpoint.proofs.LinkEnds.{drop_none}
use Rattle.smpp_session.proofs.Promises.{answered_state}

-- ---- a session that says nothing

record IsEnded (before c : EsmeProgress) : Type 0 where
  pub state : c.esme.session.conversation.state ≡ Closed
  pub closed : c.esme.outbox.is_closed ≡ true
  pub octets : c.esme.outbox.octets ≡ []
  pub jobs : of_session (all_jobs c) ≡ of_session (all_jobs before)

-- a closed session stays closed, and the outbox is that before
record IsMute (e d : EsmeView) : Type 0 where
  pub session : e.session.conversation.state ≡ Closed → d.session.conversation.state ≡ Closed
  pub outbox : d.outbox ≡ e.outbox

mute_ended : (before c d : EsmeProgress) → IsEnded before c → IsMute c.esme d.esme → d.left ≡ c.left → IsEnded before d
mute_ended before c d h m left = record {
  state = m.session h.state;
  closed = ap (λ (w : OutboxView). w.is_closed) m.outbox ∙ h.closed;
  octets = ap (λ (w : OutboxView). w.octets) m.outbox ∙ h.octets;
  jobs = ap (λ (js : List Job). of_session (js ++ d.esme.outbox.jobs)) left ∙ (ap (λ (w : OutboxView). of_session (c.left ++ w.jobs)) m.outbox ∙ h.jobs);
}

closed_says : (octets : List ℕ) (w : OutboxView) → w.is_closed ≡ true → with_octets octets w ≡ w
closed_says octets w e = rw e refl

responding_mute : (octets : Option (List ℕ)) (e : EsmeView) → e.outbox.is_closed ≡ true → IsMute e (responding octets e)
responding_mute None e closed = record { session = λ s. s; outbox = refl }
responding_mute (Some octets) e closed = record { session = λ s. s; outbox = closed_says octets e.outbox closed }

one_mute : (request : PendingRequest) (requests : List PendingRequest) (answer : CentreAnswer) (e : EsmeView) → e.outbox.is_closed ≡ true → IsMute e (answered_one request requests answer e)
one_mute request requests answer e closed =
    let before = record e { session = after_answered request.sequence_number e.session; waiting = requests; with_keeper = left_without request e.with_keeper } in
    let m = responding_mute (response e.session.conversation request answer) before closed in
    record {
      session = λ s. m.session
          (answered_state (is_last request.sequence_number e.session.conversation) (owed_behind request.sequence_number e.session.conversation) e.session.conversation s);
      outbox = m.outbox;
    }

then_mute : (e d f : EsmeView) → IsMute e d → IsMute d f → IsMute e f
then_mute e d f h g = record { session = λ s. g.session (h.session s); outbox = g.outbox ∙ h.outbox }

mute_by : (b : Bool) (e d : EsmeView) → IsMute e d → IsMute e (cond b d e)
mute_by true e d m = m
mute_by false e d m = record { session = λ s. s; outbox = refl }

throttled_mute : (requests : List PendingRequest) (e : EsmeView) → e.outbox.is_closed ≡ true → IsMute e (throttled_first requests e)
throttled_mute [] e closed = record { session = λ s. s; outbox = refl }
throttled_mute (request ∷ requests) e closed =
    let after = answered_one request requests (Refused ESME_RTHROTTLED) e in
    let one = one_mute request requests (Refused ESME_RTHROTTLED) e closed in
    mute_by request.is_throttled e (throttled_first requests after)
    (then_mute e after (throttled_first requests after) one (throttled_mute requests after (ap (λ (w : OutboxView). w.is_closed) one.outbox ∙ closed)))

first_mute : (requests : List PendingRequest) (answer : CentreAnswer) (e : EsmeView) → e.outbox.is_closed ≡ true → IsMute e (answered_first requests answer e)
first_mute [] answer e closed = record { session = λ s. s; outbox = refl }
first_mute (request ∷ requests) answer e closed = one_mute request requests answer e closed

answer_mute : (answer : CentreAnswer) (e : EsmeView) → e.outbox.is_closed ≡ true → IsMute e (heard (Answer answer) e)
answer_mute answer e closed =
    let d = answered_next answer e in
    let first = first_mute e.waiting answer e closed in
    then_mute e d (throttled_next d) first (throttled_mute d.waiting d (ap (λ (w : OutboxView). w.is_closed) first.outbox ∙ closed))

-- ---- a closed session takes nothing

abbrev pub StaysClosed : Type 0
StaysClosed = (session : SessionView) (before : List Action) (calls : List Call) → session.conversation.state ≡ Closed → ((ran (session, before) calls).0.conversation.state ≡ Closed) × ((ran (session, before) calls).1 ≡ before)

no_acts : (e : EsmeView) (f : SessionView × List Action) → e.session.conversation.state ≡ Closed → f.1 ≡ [] → actions_of e f ≡ []
no_acts e f state none =
    let lost : is_bind_lost e.session.conversation.state f.1 f.0.conversation.state ≡ false =
    ap (λ (s : SessionState). is_bind_lost s f.1 f.0.conversation.state) state
    ∙ (ap (λ (actions : List Action). is_bind_lost Closed actions f.0.conversation.state) none ∙ and_false (is_deaf f.0.conversation.state)) in
    ap (λ (b : Bool). f.1 ++ lost_bind b) lost ∙ (append-nil f.1 ∙ none)

taken_closed : (stays : StaysClosed) (octets : List ℕ) (e : EsmeView) → e.session.conversation.state ≡ Closed
    → taken octets e ≡ with_session (fed e.session octets).0 (counting_received (length octets) e)
taken_closed stays octets e state =
    let none : (fed e.session octets).1 ≡ [] = (stays e.session [] (Feed octets ∷ []) state).1 in
    taken_is octets e ∙ ap (acted_all (with_session (fed e.session octets).0 (counting_received (length octets) e))) (no_acts e (fed e.session octets) state none)

take_ended : (stays : StaysClosed) (octets : List ℕ) (before c : EsmeProgress) → IsEnded before c → IsEnded before (called_once c (Take octets))
take_ended stays octets before c h =
    let is = taken_closed stays octets c.esme h.state in record {
      state = ap (λ (d : EsmeView). d.session.conversation.state) is ∙ (stays c.esme.session [] (Feed octets ∷ []) h.state).0;
      closed = ap (λ (d : EsmeView). d.outbox.is_closed) is ∙ h.closed;
      octets = ap (λ (d : EsmeView). d.outbox.octets) is ∙ h.octets;
      jobs = ap (λ (d : EsmeView). of_session (c.left ++ d.outbox.jobs)) is ∙ h.jobs;
    }

-- ---- receipts go back

refused_by : (fault : Option DeliverFault) (end : Final) (e : EsmeView) → fault ≡ Some NotBound → receipt_by fault end e ≡ refused_receipt end.id e
refused_by None end e is = let no : None ≡ Some NotBound = is in absurd cc
refused_by (Some fault) end e is = refl

receipt_refused : (b : Bool) (end : Final) (e : EsmeView) → delivery_fault e.session.conversation ≡ Some NotBound
    → cond b (receipt_by (delivery_fault e.session.conversation) end e) (refused_receipt end.id e) ≡ refused_receipt end.id e
receipt_refused true end e is = refused_by (delivery_fault e.session.conversation) end e is
receipt_refused false end e is = refl

refused_ended : (before c d : EsmeProgress) (id : ℕ) → IsEnded before c → d.esme ≡ refused_receipt id c.esme → d.left ≡ c.left → IsEnded before d
refused_ended before c d id h is left = record {
  state = ap (λ (e : EsmeView). e.session.conversation.state) is ∙ h.state;
  closed = ap (λ (e : EsmeView). e.outbox.is_closed) is ∙ h.closed;
  octets = ap (λ (e : EsmeView). e.outbox.octets) is ∙ h.octets;
  jobs = ap (λ (js : List Job). of_session (js ++ d.esme.outbox.jobs)) left
      ∙ (ap (λ (e : EsmeView). of_session (c.left ++ e.outbox.jobs)) is ∙ (refused_all c.left c.esme.outbox.jobs id ∙ h.jobs));
}

left_if : (b : Bool) (c d : EsmeProgress) (left : List Job) → c.left ≡ left → d.left ≡ left → (cond b c d).left ≡ left
left_if true c d left p q = p
left_if false c d left p q = q

receipt_ended : (end : Final) (before c : EsmeProgress) → IsEnded before c → IsEnded before (called_once c (Hear (Receipt end)))
receipt_ended end before c h =
    let fault : delivery_fault c.esme.session.conversation ≡ Some NotBound = ap (λ (s : SessionState). fault_in s c.esme.session.conversation) h.state in
    let one = after_delivered end (called c.esme.session (Deliver (receipt_of end))) c in
    let other = with_esme (heard (Receipt end) c.esme) c in
    refused_ended before c (called_once c (Hear (Receipt end))) end.id h
    (heard_if (is_sendable end) one other (heard (Receipt end) c.esme) refl refl ∙ receipt_refused (is_sendable end) end c.esme fault)
    (left_if (is_sendable end) one other c.left refl refl)

-- ---- jobs that go

put_ended : (busy : Bool) (jobs : List Job) (before c : EsmeProgress) → c.esme.outbox.jobs ≡ jobs → IsEnded before c
    → IsEnded before (put_by (cond busy (None, c.esme) (handing (next_among jobs c.esme.outbox) c.esme)) c)
put_ended true jobs before c e h = record { state = h.state; closed = h.closed; octets = h.octets; jobs = h.jobs }
put_ended false [] before c e h = record { state = h.state; closed = h.closed; octets = h.octets; jobs = h.jobs }
put_ended false (job ∷ jobs) before c e h =
    record { state = h.state; closed = h.closed; octets = h.octets; jobs = ap of_session (gone_all c.left c.esme.outbox.jobs jobs job e) ∙ h.jobs }

back_ended : (is : Bool) (job : Job) (before c : EsmeProgress) (d : EsmeView) → c.esme.outbox.jobs ≡ job ∷ d.outbox.jobs → d.session ≡ c.esme.session
    → d.outbox.is_closed ≡ c.esme.outbox.is_closed → d.outbox.octets ≡ c.esme.outbox.octets → IsEnded before c
    → IsEnded before (taken_back job d (cond is (false, request_back d) (true, record d { outbox = with_next job d.outbox })) c)
back_ended true job before c d next session closed octets h =
    let marked = throttled_before (requests_among d.outbox.jobs) d.waiting in
    let m = throttled_mute marked (record d { waiting = marked; with_keeper = d.with_keeper - 1 }) (closed ∙ h.closed) in record {
      state = m.session (ap (λ (s : SessionView). s.conversation.state) session ∙ h.state);
      closed = ap (λ (w : OutboxView). w.is_closed) m.outbox ∙ (closed ∙ h.closed);
      octets = ap (λ (w : OutboxView). w.octets) m.outbox ∙ (octets ∙ h.octets);
      jobs = ap (λ (w : OutboxView). of_session ((c.left ++ job ∷ []) ++ w.jobs)) m.outbox ∙ (ap of_session (gone_all c.left c.esme.outbox.jobs d.outbox.jobs job next) ∙ h.jobs);
    }
back_ended false job before c d next session closed octets h = record {
  state = ap (λ (s : SessionView). s.conversation.state) session ∙ h.state;
  closed = closed ∙ h.closed;
  octets = octets ∙ h.octets;
  jobs = ap (λ (js : List Job). of_session (c.left ++ js)) (sym next) ∙ h.jobs;
}

put_back_ended : (busy : Bool) (jobs : List Job) (before c : EsmeProgress) → c.esme.outbox.jobs ≡ jobs → IsEnded before c
    → IsEnded before (put_back_by (cond busy (None, c.esme) (handing (next_among jobs c.esme.outbox) c.esme)) c)
put_back_ended true jobs before c e h = record { state = h.state; closed = h.closed; octets = h.octets; jobs = h.jobs }
put_back_ended false [] before c e h = record { state = h.state; closed = h.closed; octets = h.octets; jobs = h.jobs }
put_back_ended false (job ∷ jobs) before c e h =
    back_ended (is_request job) job before c (handing (next_among (job ∷ jobs) c.esme.outbox) c.esme).1 e refl refl refl h

-- ---- any calls

sent_ended : (b : Bool) (count : ℕ) (before c d : EsmeProgress) → IsEnded before c
    → d.esme ≡ counting_sent count (record c.esme { outbox = cond b (record c.esme.outbox { octets = drop count c.esme.outbox.octets }) c.esme.outbox }) → d.left ≡ c.left → IsEnded before d
sent_ended true count before c d h is left = record {
  state = ap (λ (e : EsmeView). e.session.conversation.state) is ∙ h.state;
  closed = ap (λ (e : EsmeView). e.outbox.is_closed) is ∙ h.closed;
  octets = ap (λ (e : EsmeView). e.outbox.octets) is ∙ (ap (drop count) h.octets ∙ drop_none count);
  jobs = ap (λ (js : List Job). of_session (js ++ d.esme.outbox.jobs)) left ∙ (ap (λ (e : EsmeView). of_session (c.left ++ e.outbox.jobs)) is ∙ h.jobs);
}
sent_ended false count before c d h is left = record {
  state = ap (λ (e : EsmeView). e.session.conversation.state) is ∙ h.state;
  closed = ap (λ (e : EsmeView). e.outbox.is_closed) is ∙ h.closed;
  octets = ap (λ (e : EsmeView). e.outbox.octets) is ∙ h.octets;
  jobs = ap (λ (js : List Job). of_session (js ++ d.esme.outbox.jobs)) left ∙ (ap (λ (e : EsmeView). of_session (c.left ++ e.outbox.jobs)) is ∙ h.jobs);
}

told_ended : (notes : List Note) (before c : EsmeProgress) → IsEnded before c → IsEnded before (with_esme (first_note notes c.esme).1 c)
told_ended [] before c h = record { state = h.state; closed = h.closed; octets = h.octets; jobs = h.jobs }
told_ended (note ∷ notes) before c h = record { state = h.state; closed = h.closed; octets = h.octets; jobs = h.jobs }

call_ended : (stays : StaysClosed) (call : EsmeCall) (before c : EsmeProgress) → IsEnded before c → IsEnded before (called_once c call)
call_ended stays (At now) before c h = record { state = h.state; closed = h.closed; octets = h.octets; jobs = h.jobs }
call_ended stays (TellFull full) before c h = record { state = h.state; closed = h.closed; octets = h.octets; jobs = h.jobs }
call_ended stays (Take octets) before c h = take_ended stays octets before c h
call_ended stays (Hear (Answer answer)) before c h = mute_ended before c (called_once c (Hear (Answer answer))) h (answer_mute answer c.esme h.closed) refl
call_ended stays (Hear (Receipt end)) before c h = receipt_ended end before c h
call_ended stays (Hear (Frame octets)) before c h = h
call_ended stays (Hear Taken) before c h = h
call_ended stays (Say octets) before c h =
    mute_ended before c (called_once c (Say octets)) h (record { session = λ s. s; outbox = closed_says octets c.esme.outbox h.closed }) refl
call_ended stays (WasSent count) before c h =
    sent_ended (leb count (length c.esme.outbox.octets)) count before c (called_once c (WasSent count)) h refl refl
call_ended stays Leave before c h =
    let e = c.esme in
    let no : may_unbind e.session.conversation.state ≡ false = ap may_unbind h.state in
    let m = responding_mute (unbinding e.session.conversation.state) (with_session (after_unbind e.session) e) h.closed in
    mute_ended before c (called_once c Leave) h
    (record { session = λ s. m.session (ap (λ (b : Bool). (cond b (record e.session.conversation { state = Unbinding }) e.session.conversation).state) no ∙ s); outbox = m.outbox }) refl
call_ended stays Put before c h = put_ended (is_request_first c.esme.outbox.jobs && leb 8 c.esme.with_keeper) c.esme.outbox.jobs before c refl h
call_ended stays PutBack before c h = put_back_ended (is_request_first c.esme.outbox.jobs && leb 8 c.esme.with_keeper) c.esme.outbox.jobs before c refl h
call_ended stays Tell before c h = told_ended c.esme.notes before c h

all_ended : (stays : StaysClosed) (calls : List EsmeCall) (before c : EsmeProgress) → IsEnded before c → IsEnded before (called_all c calls)
all_ended stays [] before c h = h
all_ended stays (call ∷ calls) before c h = all_ended stays calls before (called_once c call) (call_ended stays call before c h)

pub after_end : (stays : StaysClosed) (calls : List EsmeCall) (before : EsmeProgress) → IsAfterEnd before (called_all (with_esme (ended before.esme) before) calls)
after_end stays calls before =
    let h = all_ended stays calls before (with_esme (ended before.esme) before) (record { state = refl; closed = refl; octets = refl; jobs = refl }) in
    record { jobs = h.jobs; octets = h.octets }
