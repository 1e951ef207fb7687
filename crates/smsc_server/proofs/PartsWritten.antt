-- What is to be written to an application is its parts, and its answers are those of its requests.
use Rattle.std.proofs.Common.{◌≡◌, ◌⊎◌, inl, inr, ℕ, Bool, true, false, cond, List, [], ◌∷◌, ◌++◌, map, Option, Some, None, refl, sym, ap, subst, ◌∙◌, append_assoc, append-nil}
use Rattle.std.specs.Prelude.{◌≢◌}
use Rattle.std.specs.List.{AllByRecursion}
use Rattle.smpp_session.specs.declared.account.Account.{Account}
use Rattle.smpp_session.specs.declared.action.Action.{Action}
use Rattle.smpp_session.specs.declared.calling.Call.TheVariants.{Deliver}
use Rattle.smpp_session.specs.declared.fault.DeliverFault.{DeliverFault}
use Rattle.smpp_session.specs.Bindings.{is_bind_lost}
use Rattle.smpp_session.specs.Calls.{called, delivering, ran, sending}
use Rattle.smpp_session.specs.Sessions.{SessionView, after_answered, delivery_fault, fed, unbinding, opened as opened_session}
use Rattle.smpp_pdu.specs.declared.message.Message.{Message}
use Rattle.sms_centre_spec.specs.declared.jobs.job.Job.{Job}
use Rattle.sms_centre_spec.specs.declared.jobs.reply.Reply.{Reply}
use Rattle.sms_centre_spec.specs.declared.jobs.reply.Reply.TheVariants.{Answer, Receipt, Frame, Taken}
use Rattle.sms_receipt.specs.declared.final_message.Final.{Final}
use Rattle.sms_receipt.specs.Receipts.{receipt_of}
use Rattle.smsc_loop.specs.Calls.{Call, Timed, Told, Took, Heard, GaveUp, AskedLink, AskedToLeave, Noted, Sent, Put, PutBack, Left, PutLast, PutOwn, Dropped, Refused, octets_sent}
use Rattle.smsc_loop.specs.Courses.{Did, Runs, Standing}
use Rattle.smsc_loop.specs.Phases.{Phase, Serves, Moves}
use Rattle.smsc_endpoint.specs.declared.pending.PendingRequest.{PendingRequest}
use Rattle.smsc_endpoint.specs.EsmeCalls.{handed_back, handed_out, heard, is_sendable}
use Rattle.smsc_endpoint.specs.EsmeDoes.{EsmeDoes}
use Rattle.smsc_endpoint.specs.EsmeRuns.{Answered, EsmeCall, EsmeProgress, after_delivered, answer_actions, answered_among, called_all, called_once, fresh, lost_bind, octets_or_none, put_back_by, put_by, request_of, requests_from, responses, sends_from, started, taken_back, throttled_among, with_esme}
use Rattle.smsc_endpoint.specs.EsmeRuns.{At, TellFull, Take, Hear, Say, WasSent, Leave, Put as HandOut, PutBack as HandOutAndBack, Tell}
use Rattle.smsc_endpoint.specs.EsmeView.{EsmeView, opened}
use Rattle.smsc_endpoint.specs.LoopCourses.{IsCourseOf, call_of, calls_of, octets_fed}
use Rattle.smsc_endpoint.specs.Outbox.{requests_among}
use Rattle.smsc_endpoint.specs.PendingRequests.{throttled_before}
use Rattle.smsc_endpoint.specs.Responses.{response}
use Rattle.smsc_endpoint.proofs.EsmeRuns.{begins, progress_holds}
use Rattle.smsc_endpoint.proofs.LoopCourses.{is_serving, loop_course, moves_away}
use Rattle.smsc_endpoint.proofs.EsmeActions.{requests_append}
use Rattle.smsc_server.specs.WhatIsRead.{Part, OfTable, OfAnswer, OfReceipt, OfLeaving, OfServer, IsOwn, IsRead, Reads, StandIn, answer_parts, answers_in, course_of, heard_parts, octets_of_part, octets_of_parts, parts_all, parts_once, put_back_parts, receipt_parts, requests_in, taken_back_parts}
use Rattle.smsc_server.proofs.ReceiptsWritten.{all_append, written_receipts}
use Rattle.smsc_server.proofs.RequestsArrive.{requests_stand}

-- ---- lists of parts

parts_append : (xs ys : List Part) → octets_of_parts (xs ++ ys) ≡ octets_of_parts xs ++ octets_of_parts ys
parts_append [] ys = refl
parts_append (x ∷ xs) ys =
    ap (λ (os : List ℕ). octets_of_part x ++ os) (parts_append xs ys) ∙ sym (append_assoc (octets_of_part x) (octets_of_parts xs) (octets_of_parts ys))

answers_append : (xs ys : List Part) → answers_in (xs ++ ys) ≡ answers_in xs ++ answers_in ys
answers_append [] ys = refl
answers_append (OfTable session octets ∷ xs) ys = answers_append xs ys
answers_append (OfAnswer session answered ∷ xs) ys = ap (λ (l : List Answered). answered ∷ l) (answers_append xs ys)
answers_append (OfReceipt session end ∷ xs) ys = answers_append xs ys
answers_append (OfLeaving session ∷ xs) ys = answers_append xs ys
answers_append (OfServer octets ∷ xs) ys = answers_append xs ys

own_append : (xs ys : List Part) → AllByRecursion IsOwn xs → AllByRecursion IsOwn ys → AllByRecursion IsOwn (xs ++ ys)
own_append [] ys h k = k
own_append (x ∷ xs) ys h k = (h.0, own_append xs ys h.1 k)

-- ---- what a call adds

-- what is to be written grows by the parts, and the answers by theirs
pub record Adds (c d : EsmeProgress) (parts : List Part) : Type 0 where
  pub said : d.said ≡ c.said ++ octets_of_parts parts
  pub answers : d.answers ≡ c.answers ++ answers_in parts

adds_none : (c d : EsmeProgress) → d.said ≡ c.said → d.answers ≡ c.answers → Adds c d []
adds_none c d e f = record { said = e ∙ sym (append-nil c.said); answers = f ∙ sym (append-nil c.answers) }

-- one part that is no answer
adds_one : (c d : EsmeProgress) (part : Part) → answers_in (part ∷ []) ≡ [] → d.said ≡ c.said ++ octets_of_parts (part ∷ []) → d.answers ≡ c.answers → Adds c d (part ∷ [])
adds_one c d part n e f = record { said = e; answers = f ∙ (sym (append-nil c.answers) ∙ ap (λ (l : List Answered). c.answers ++ l) (sym n)) }

responses_are : (session : SessionView) (answers : List Answered) → responses session answers ≡ octets_of_parts (answer_parts session answers)
responses_are session [] = refl
responses_are session (answered ∷ others) =
    ap (λ (os : List ℕ). octets_or_none (response session.conversation answered.0 answered.1) ++ os) (responses_are (after_answered answered.0.sequence_number session) others)

answers_are : (session : SessionView) (answers : List Answered) → answers ≡ answers_in (answer_parts session answers)
answers_are session [] = refl
answers_are session (answered ∷ others) = ap (λ (l : List Answered). answered ∷ l) (answers_are (after_answered answered.0.sequence_number session) others)

-- answers one after the other
adds_answers : (c d : EsmeProgress) (session : SessionView) (answers : List Answered) → d.said ≡ c.said ++ responses session answers → d.answers ≡ c.answers ++ answers
    → Adds c d (answer_parts session answers)
adds_answers c d session answers e f = record {
  said = e ∙ ap (λ (os : List ℕ). c.said ++ os) (responses_are session answers);
  answers = f ∙ ap (λ (l : List Answered). c.answers ++ l) (answers_are session answers);
}

adds_receipt : (b : Bool) (end : Final) (c : EsmeProgress) → Adds c (cond b (after_delivered end (called c.esme.session (Deliver (receipt_of end))) c) (with_esme (heard (Receipt end) c.esme) c)) (receipt_parts b c.esme.session end)
adds_receipt true end c =
    adds_one c _ (OfReceipt c.esme.session end) refl (ap (λ (os : List ℕ). c.said ++ os) (sym (append-nil (sends_from (called c.esme.session (Deliver (receipt_of end))).1)))) refl
adds_receipt false end c = adds_none c _ refl refl

adds_heard : (reply : Reply) (c : EsmeProgress) → Adds c (called_once c (Hear reply)) (heard_parts reply c.esme)
adds_heard (Answer answer) c = adds_answers c _ c.esme.session (answered_among c.esme.waiting answer) refl refl
adds_heard (Receipt end) c = adds_receipt (is_sendable end) end c
adds_heard (Frame octets) c = adds_none c c refl refl
adds_heard Taken c = adds_none c c refl refl

adds_put : (q : Option Job × EsmeView) (c : EsmeProgress) → Adds c (put_by q c) []
adds_put (None, e) c = adds_none c _ refl refl
adds_put (Some job, e) c = adds_none c _ refl refl

adds_taken_back : (r : Bool × EsmeView) (job : Job) (before : EsmeView) (c : EsmeProgress) → Adds c (taken_back job before r c) (taken_back_parts r.0 before c.esme.session)
adds_taken_back (true, e) job before c = adds_none c _ refl refl
adds_taken_back (false, e) job before c = adds_answers c _ c.esme.session (throttled_among (throttled_before (requests_among before.outbox.jobs) before.waiting)) refl refl

adds_put_back : (q : Option Job × EsmeView) (c : EsmeProgress) → Adds c (put_back_by q c) (put_back_parts q c.esme.session)
adds_put_back (None, e) c = adds_none c _ refl refl
adds_put_back (Some job, e) c = adds_taken_back (handed_back job e) job e c

adds_once : (call : EsmeCall) (c : EsmeProgress) → Adds c (called_once c call) (parts_once c call)
adds_once (At now) c = adds_none c _ refl refl
adds_once (TellFull full) c = adds_none c _ refl refl
adds_once (Take octets) c =
    adds_one c _ (OfTable c.esme.session octets) refl (ap (λ (os : List ℕ). c.said ++ os) (sym (append-nil (sends_from (fed c.esme.session octets).1)))) refl
adds_once (Hear reply) c = adds_heard reply c
adds_once (Say octets) c = adds_one c _ (OfServer octets) refl (ap (λ (os : List ℕ). c.said ++ os) (sym (append-nil octets))) refl
adds_once (WasSent count) c = adds_none c _ refl refl
adds_once Leave c =
    adds_one c _ (OfLeaving c.esme.session) refl (ap (λ (os : List ℕ). c.said ++ os) (sym (append-nil (octets_or_none (unbinding c.esme.session.conversation.state))))) refl
adds_once HandOut c = adds_put (handed_out c.esme) c
adds_once HandOutAndBack c = adds_put_back (handed_out c.esme) c
adds_once Tell c = adds_none c _ refl refl

pub adds_all : (calls : List EsmeCall) (c : EsmeProgress) → Adds c (called_all c calls) (parts_all c calls)
adds_all [] c = adds_none c c refl refl
adds_all (call ∷ calls) c =
    let d = called_once c call in
    let h = adds_once call c in
    let k = adds_all calls d in record {
      said = k.said ∙ (ap (λ (os : List ℕ). os ++ octets_of_parts (parts_all d calls)) h.said
          ∙ (append_assoc c.said (octets_of_parts (parts_once c call)) (octets_of_parts (parts_all d calls))
          ∙ ap (λ (os : List ℕ). c.said ++ os) (sym (parts_append (parts_once c call) (parts_all d calls)))));
      answers = k.answers ∙ (ap (λ (l : List Answered). l ++ answers_in (parts_all d calls)) h.answers
          ∙ (append_assoc c.answers (answers_in (parts_once c call)) (answers_in (parts_all d calls))
          ∙ ap (λ (l : List Answered). c.answers ++ l) (sym (answers_append (parts_once c call) (parts_all d calls)))));
    }

-- ---- what the server says by itself

own_answers : (session : SessionView) (answers : List Answered) → AllByRecursion IsOwn (answer_parts session answers)
own_answers session [] = tt
own_answers session (answered ∷ others) = (tt, own_answers (after_answered answered.0.sequence_number session) others)

own_receipt : (b : Bool) (session : SessionView) (end : Final) → AllByRecursion IsOwn (receipt_parts b session end)
own_receipt true session end = (tt, tt)
own_receipt false session end = tt

own_heard : (reply : Reply) (e : EsmeView) → AllByRecursion IsOwn (heard_parts reply e)
own_heard (Answer answer) e = own_answers e.session (answered_among e.waiting answer)
own_heard (Receipt end) e = own_receipt (is_sendable end) e.session end
own_heard (Frame octets) e = tt
own_heard Taken e = tt

own_taken_back : (again : Bool) (before : EsmeView) (session : SessionView) → AllByRecursion IsOwn (taken_back_parts again before session)
own_taken_back true before session = tt
own_taken_back false before session = own_answers session (throttled_among (throttled_before (requests_among before.outbox.jobs) before.waiting))

own_put_back : (q : Option Job × EsmeView) (session : SessionView) → AllByRecursion IsOwn (put_back_parts q session)
own_put_back (None, e) session = tt
own_put_back (Some job, e) session = own_taken_back (handed_back job e).0 e session

own_single : (parts : List Part) → AllByRecursion IsOwn parts → AllByRecursion IsOwn (parts ++ [])
own_single parts h = subst (λ (ps : List Part). AllByRecursion IsOwn ps) (sym (append-nil parts)) h

own_call : (call : Call) (c : EsmeProgress) → AllByRecursion IsOwn (parts_all c (call_of call))
own_call (Timed now went) c = tt
own_call (Told full) c = tt
own_call (Took octets went) c = (tt, tt)
own_call (Heard reply went) c = own_single (heard_parts reply c.esme) (own_heard reply c.esme)
own_call (GaveUp went) c = (inl refl, tt)
own_call (AskedLink went) c = (inr refl, tt)
own_call (AskedToLeave asked went) c = (tt, tt)
own_call (Noted said) c = tt
own_call (Sent octets) c = tt
own_call (Put job) c = tt
own_call (PutBack job again went) c = own_single (put_back_parts (handed_out c.esme) c.esme.session) (own_put_back (handed_out c.esme) c.esme.session)
own_call (Left last) c = tt
own_call (PutLast job) c = tt
own_call (PutOwn job) c = tt
own_call (Dropped reply) c = tt
own_call (Refused reply) c = tt

own_all : (calls : List Call) (c : EsmeProgress) → AllByRecursion IsOwn (parts_all c (calls_of calls))
own_all [] c = tt
own_all (call ∷ calls) c =
    subst (λ (ps : List Part). AllByRecursion IsOwn ps) (sym (all_append c (call_of call) (calls_of calls)))
    (own_append (parts_all c (call_of call)) (parts_all (called_all c (call_of call)) (calls_of calls)) (own_call call c) (own_all calls (called_all c (call_of call))))

-- ---- requests: those of the actions that were done are those of the actions that were given

from_quiet : (xs ys : List Action) → requests_from ys ≡ [] → requests_from (xs ++ ys) ≡ requests_from xs
from_quiet xs ys e = requests_append xs ys ∙ (ap (λ (rs : List PendingRequest). requests_from xs ++ rs) e ∙ append-nil (requests_from xs))

from_lost : (b : Bool) → requests_from (lost_bind b) ≡ []
from_lost true = refl
from_lost false = refl

from_sending : (octets : Option (List ℕ)) → requests_from (sending octets) ≡ []
from_sending None = refl
from_sending (Some octets) = refl

from_delivering : (fault : Option DeliverFault) (session : SessionView) (message : Message) → requests_from (delivering session message fault).1 ≡ []
from_delivering None session message = refl
from_delivering (Some fault) session message = refl

from_answers : (session : SessionView) (answers : List Answered) → requests_from (answer_actions session answers) ≡ []
from_answers session [] = refl
from_answers session (answered ∷ others) =
    requests_append (sending (response session.conversation answered.0 answered.1)) (answer_actions (after_answered answered.0.sequence_number session) others)
    ∙ (ap (λ (rs : List PendingRequest). rs ++ requests_from (answer_actions (after_answered answered.0.sequence_number session) others)) (from_sending (response session.conversation answered.0 answered.1))
    ∙ from_answers (after_answered answered.0.sequence_number session) others)

abbrev Same : EsmeProgress → Type 0
Same c = requests_from c.actions ≡ requests_from c.given

same_quiet : (c d : EsmeProgress) (new : List Action) → requests_from new ≡ [] → d.actions ≡ c.actions → d.given ≡ c.given ++ new → Same c → Same d
same_quiet c d new e f g h = ap requests_from f ∙ (h ∙ (sym (from_quiet c.given new e) ∙ ap requests_from (sym g)))

same_receipt : (b : Bool) (end : Final) (c : EsmeProgress) → Same c
    → Same (cond b (after_delivered end (called c.esme.session (Deliver (receipt_of end))) c) (with_esme (heard (Receipt end) c.esme) c))
same_receipt true end c h =
    same_quiet c (after_delivered end (called c.esme.session (Deliver (receipt_of end))) c) (called c.esme.session (Deliver (receipt_of end))).1 (from_delivering (delivery_fault c.esme.session.conversation) c.esme.session (receipt_of end)) refl refl h
same_receipt false end c h = h

same_heard : (reply : Reply) (c : EsmeProgress) → Same c → Same (called_once c (Hear reply))
same_heard (Answer answer) c h =
    same_quiet c (called_once c (Hear (Answer answer))) (answer_actions c.esme.session (answered_among c.esme.waiting answer)) (from_answers c.esme.session (answered_among c.esme.waiting answer)) refl refl h
same_heard (Receipt end) c h = same_receipt (is_sendable end) end c h
same_heard (Frame octets) c h = h
same_heard Taken c h = h

same_put : (q : Option Job × EsmeView) (c : EsmeProgress) → Same c → Same (put_by q c)
same_put (None, e) c h = h
same_put (Some job, e) c h = h

same_taken_back : (r : Bool × EsmeView) (job : Job) (before : EsmeView) (c : EsmeProgress) → Same c → Same (taken_back job before r c)
same_taken_back (true, e) job before c h = h
same_taken_back (false, e) job before c h =
    let answers = throttled_among (throttled_before (requests_among before.outbox.jobs) before.waiting) in
    same_quiet c (taken_back job before (false, e) c) (answer_actions c.esme.session answers) (from_answers c.esme.session answers) refl refl h

same_put_back : (q : Option Job × EsmeView) (c : EsmeProgress) → Same c → Same (put_back_by q c)
same_put_back (None, e) c h = h
same_put_back (Some job, e) c h = same_taken_back (handed_back job e) job e c h

same_once : (call : EsmeCall) (c : EsmeProgress) → Same c → Same (called_once c call)
same_once (At now) c h = h
same_once (TellFull full) c h = h
same_once (Take octets) c h =
    let f = fed c.esme.session octets in
    let lost = is_bind_lost c.esme.session.conversation.state f.1 f.0.conversation.state in
    requests_append c.actions (f.1 ++ lost_bind lost)
    ∙ (ap (λ (rs : List PendingRequest). requests_from c.actions ++ rs) (from_quiet f.1 (lost_bind lost) (from_lost lost))
    ∙ (ap (λ (rs : List PendingRequest). rs ++ requests_from f.1) h ∙ sym (requests_append c.given f.1)))
same_once (Hear reply) c h = same_heard reply c h
same_once (Say octets) c h = h
same_once (WasSent count) c h = h
same_once Leave c h = same_quiet c (called_once c Leave) (sending (unbinding c.esme.session.conversation.state)) (from_sending (unbinding c.esme.session.conversation.state)) refl refl h
same_once HandOut c h = same_put (handed_out c.esme) c h
same_once HandOutAndBack c h = same_put_back (handed_out c.esme) c h
same_once Tell c h = h

same_all : (calls : List EsmeCall) (c : EsmeProgress) → Same c → Same (called_all c calls)
same_all [] c h = h
same_all (call ∷ calls) c h = same_all calls (called_once c call) (same_once call c h)

-- ---- where the connection was served

pub sent_away : (call : Call) (calls : List Call) (p o : Phase) → Moves call p o → (p ≡ Serves → ⊥) → octets_sent (call ∷ calls) ≡ octets_sent calls
sent_away (Sent octets) calls p o m away = absurd (away m.0)
sent_away call calls p o m away = refl

none_sent : (calls : List Call) (v w : EsmeView) (p q : Phase) → Runs EsmeDoes v p calls w q → (p ≡ Serves → ⊥) → octets_sent calls ≡ []
none_sent [] v w p q r away = refl
none_sent (call ∷ calls) v w p q r away = sent_away call calls p r.1 r.3 away ∙ none_sent calls r.0 w r.1 q r.4 (moves_away call p r.1 r.3 away)

pub sent_last : (call : Call) (calls : List Call) (o : Phase) → Moves call Serves o → (o ≡ Serves → ⊥) → octets_sent (call ∷ calls) ≡ octets_sent calls
sent_last (Sent octets) calls o m away = absurd (away m.1)
sent_last call calls o m away = refl

pub record WasServed (v : EsmeView) (calls : List Call) : Type 0 where
  pub one : List Call
  pub other : List Call
  pub parts : calls ≡ one ++ other
  pub last : EsmeView
  pub run : Runs EsmeDoes v Serves one last Serves
  pub none : octets_sent other ≡ []

served_next : (call : Call) (calls : List Call) (v w : EsmeView) (q : Phase) (r : Runs EsmeDoes v Serves (call ∷ calls) w q)
    → ((u : EsmeView) → Runs EsmeDoes u Serves calls w q → WasServed u calls) → (r.1 ≡ Serves) ⊎ (r.1 ≡ Serves → ⊥) → WasServed v (call ∷ calls)
served_next call calls v w q r rest (inl e) =
    let h = rest r.0 (subst (λ (p : Phase). Runs EsmeDoes r.0 p calls w q) e r.4) in record {
      one = call ∷ h.one;
      other = h.other;
      parts = ap (λ (l : List Call). call ∷ l) h.parts;
      last = h.last;
      run = (r.0, Serves, r.2, subst (λ (p : Phase). Moves call Serves p) e r.3, h.run);
      none = h.none;
    }
served_next call calls v w q r rest (inr away) = record {
  one = [];
  other = call ∷ calls;
  parts = refl;
  last = v;
  run = (refl, refl);
  none = sent_last call calls r.1 r.3 away ∙ none_sent calls r.0 w r.1 q r.4 away;
}

pub was_served : (calls : List Call) (v w : EsmeView) (q : Phase) → Runs EsmeDoes v Serves calls w q → WasServed v calls
was_served [] v w q r = record { one = []; other = []; parts = refl; last = v; run = (refl, refl); none = refl }
was_served (call ∷ calls) v w q r = served_next call calls v w q r (λ u s. was_served calls u w q s) (is_serving r.1)

pub runs_both : (u v w : EsmeView) (n o p : Phase) (one other : List Call) → Runs EsmeDoes u n one v o → Runs EsmeDoes v o other w p → Runs EsmeDoes u n (one ++ other) w p
runs_both u v w n o p [] other r k =
    subst (λ (x : EsmeView). Runs EsmeDoes x n other w p) r.0 (subst (λ (y : Phase). Runs EsmeDoes v y other w p) r.1 k)
runs_both u v w n o p (call ∷ one) other r k = (r.0, r.1, r.2, r.3, runs_both r.0 v w r.1 o p one other r.4 k)

-- ---- what is read

pub reads : (accounts : List Account) (one : List Call) (last : EsmeView) → IsCourseOf accounts one last → (course_of accounts one).esme.wrong_binds ≢ 0
    → Reads accounts one (course_of accounts one) (parts_all (started accounts) (calls_of one))
reads accounts one last course some =
    let d = course_of accounts one in
    let progress = progress_holds accounts (calls_of one) (started accounts) (begins accounts) some in
    let adds = adds_all (calls_of one) (started accounts) in
    let given_is : (ran (opened_session accounts, []) d.calls).1 ≡ d.given = ap (λ (q : SessionView × List Action). q.1) progress.session in record {
      written_so = sym adds.said ∙ (sym progress.octets ∙ ap (λ (os : List ℕ). os ++ d.esme.outbox.octets) course.sent);
      own = own_all one (started accounts);
      requests = subst (λ (os : List ℕ). StandIn (requests_in d.given) os) course.fed
          (subst (λ (acts : List Action). StandIn (requests_in acts) (octets_fed d.calls)) given_is (requests_stand accounts d.calls));
      receipts = written_receipts one (started accounts);
      answered = ap (λ (l : List Answered). map fresh (map request_of l ++ d.esme.waiting)) (sym adds.answers)
          ∙ (progress.requests ∙ same_all (calls_of one) (started accounts) refl);
    }

read_of : (accounts : List Account) (calls : List Call) → WasServed (opened accounts) calls → IsRead accounts calls
read_of accounts calls h = (h.one, h.other, h.parts, h.none, λ some. reads accounts h.one h.last (loop_course accounts h.one h.last h.run) some)

-- a connection that was served, and then left its seat
pub is_read : (accounts : List Account) (s t u : Standing EsmeView) → s.view ≡ opened accounts → s.phase ≡ Serves → (served : Did EsmeDoes s t) (left : Did EsmeDoes t u)
    → IsRead accounts (served.calls ++ left.calls)
is_read accounts s t u v p served left =
    let whole = runs_both s.view t.view u.view s.phase t.phase u.phase served.calls left.calls served.runs left.runs in
    read_of accounts (served.calls ++ left.calls)
    (was_served (served.calls ++ left.calls) (opened accounts) u.view u.phase
    (subst (λ (e : EsmeView). Runs EsmeDoes e Serves (served.calls ++ left.calls) u.view u.phase) v
    (subst (λ (q : Phase). Runs EsmeDoes s.view q (served.calls ++ left.calls) u.view u.phase) p whole)))
