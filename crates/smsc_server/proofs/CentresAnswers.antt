-- The requests of an application have the centre's answers.
use Rattle.std.proofs.Common.{◌≡◌, ◌≢◌, ◌<◌, ◌+◌, ◌-◌, ◌∙◌, ◌⊎◌, inl, inr, ⊎_elim, ℕ, zero, suc, Bool, true, false, true≢false, List, [], ◌∷◌, ◌++◌, length, length-append, map, Option, Some, None, if◌then◌else◌, nat_lt, refl, sym, ap, subst, append_assoc, append-nil, zero-add, arith}
use Rattle.std.specs.List.{AllByRecursion}
use Rattle.std.specs.Prelude.{⊤}
use Rattle.std.proofs.lemmas.Bool.{cases_Bool, lt-ltb}
use Rattle.std.proofs.lemmas.List.{map-append}
use Rattle.sms_base.proofs.Lists.{all_append}
use Rattle.smpp_pdu.specs.declared.header.Header.{Header}
use Rattle.smpp_session.specs.declared.account.Account.{Account}
use Rattle.smpp_session.specs.declared.action.Action.{Action}
use Rattle.smpp_session.specs.declared.action.Action.TheVariants.{Send, Bound, Submit, Query, Cancel, DeliverAnswered, BindRefused, Unbound}
use Rattle.smpp_session.specs.declared.answer.Request.{Request}
use Rattle.smpp_session.specs.declared.answer.Request.TheVariants.{Submit as SubmitRequest, Query as QueryRequest, Cancel as CancelRequest}
use Rattle.smpp_session.specs.declared.calling.Call.TheVariants.{Deliver}
use Rattle.smpp_session.specs.Calls.{called}
use Rattle.sms_centre_spec.specs.declared.answer.CentreAnswer.{CentreAnswer}
use Rattle.sms_centre_spec.specs.declared.jobs.job.Job.{Job}
use Rattle.sms_centre_spec.specs.declared.jobs.job.Job.TheVariants.{Bound as BoundJob, Unbound as UnboundJob, Submit as SubmitJob, Query as QueryJob, Cancel as CancelJob, DeliverAnswered as DeliverAnsweredJob, LinkUp, LinkDown, Frame as FrameJob}
use Rattle.sms_centre_spec.specs.declared.jobs.reply.Reply.{Reply}
use Rattle.sms_centre_spec.specs.declared.jobs.reply.Reply.TheVariants.{Answer, Receipt, Frame, Taken}
use Rattle.sms_centre_spec.specs.jobs.Requests.{is_request}
use Rattle.sms_receipt.specs.declared.final_message.Final.{Final}
use Rattle.sms_receipt.specs.Receipts.{receipt_of}
use Rattle.sms_seats.specs.Jobs.{jobs_among}
use Rattle.smsc_loop.specs.Calls.{Call, Timed, Told, Took, Heard, GaveUp, AskedLink, AskedToLeave, Noted, Sent, Put, PutBack, Left, PutLast, PutOwn, Dropped, Refused}
use Rattle.smsc_loop.specs.Calls.{jobs_put, octets_sent, replies_taken}
use Rattle.sms_seats.specs.Seats.{put_by as put_at, taken_by as taken_at}
use Rattle.smsc_loop.specs.Courses.{AreDue, Did, IsDue, LeadsTo, Runs, Standing}
use Rattle.smsc_loop.specs.Owing.{answers_in as answers_got, awaited_after, awaited_with, is_ahead, requests_in as requests_put}
use Rattle.smsc_loop.specs.Phases.{Phase, Serves, Leaves, Ends, Asks, Moves}
use Rattle.smsc_loop.specs.declared.note.Note.{Note}
use Rattle.smsc_loop.proofs.Counting.{answers_more, answers_same, requests_next}
use Rattle.smsc_loop.proofs.Joins.{due_at, due_join, jobs_put_join, replies_taken_join}
use Rattle.smsc_endpoint.specs.declared.pending.PendingRequest.{PendingRequest}
use Rattle.smsc_endpoint.specs.EsmeCalls.{account_of, handed_back, handed_out, header_in, heard, is_sendable, pending, request_back}
use Rattle.smsc_endpoint.specs.EsmeDoes.{EsmeDoes}
use Rattle.smsc_endpoint.specs.EsmeRuns.{Answered, EsmeCall, EsmeProgress, IsEsmeProgress, account_behind, after_delivered, asked_with, called_all, called_once, fresh, is_of_session, jobs_from, jobs_of, of_session, pending_with, put_back_by, put_by, request_of, requests_from, requests_of, started, taken_back, with_esme}
use Rattle.smsc_endpoint.specs.EsmeRuns.{At, TellFull, Take, Hear, Say, WasSent, Leave, Put as HandOut, PutBack as HandOutAndBack, Tell}
use Rattle.smsc_endpoint.specs.EsmeTurns.{EsmeTurns, HasTurns, IsInTurn, IsThrottledAnswer, answer_in, answers_heard, back_by, begun, heard_in, if_request, turned, turned_all, was_back}
use Rattle.smsc_endpoint.specs.EsmeView.{EsmeView, opened}
use Rattle.smsc_endpoint.specs.LoopCourses.{call_of, calls_of}
use Rattle.smsc_endpoint.specs.Outbox.{requests_among as count_among, with_next}
use Rattle.smsc_endpoint.specs.Refusing.{enquire_link, no_room}
use Rattle.smsc_endpoint.proofs.EsmeRuns.{all_zero, begins as begins_progress, heard_if, one_call}
use Rattle.smsc_endpoint.proofs.EsmeTurns.{begins as begins_turns, progress_of, turns_hold}
use Rattle.smsc_endpoint.proofs.LoopCourses.{all_append as called_append, fails, is_serving, loop_course, stays_away}
use Rattle.smsc_server.specs.CentresAnswers.{AreFor, HasCentresAnswers, ReadsAnswers, answered_with, answers_to, not_back, request_in}
use Rattle.smsc_server.specs.Exchanges.{Exchange, answered_in, answers_among, asked_in, requests_among}
use Rattle.smsc_server.specs.WhatIsRead.{answers_in, course_of, parts_all}
use Rattle.smsc_server.proofs.PartsWritten.{WasServed, adds_all, reads, runs_both, was_served}
use Rattle.smsc_server.proofs.serving.Exchanged.{answers_join, requests_join}
use Rattle.smsc_server.proofs.serving.Sat.{jobs_join}

-- ---- marks

-- those whose mark is false
abbrev unmarked : {A : Type 0} → List Bool → List A → List A
unmarked [] xs = []
unmarked (b ∷ bs) [] = []
unmarked (b ∷ bs) (x ∷ xs) = if b then unmarked bs xs else x ∷ unmarked bs xs

abbrev falses : List Bool → ℕ
falses [] = 0
falses (b ∷ bs) = if b then falses bs else suc (falses bs)

-- lists of the same length
suc_same : (m n : ℕ) → suc m ≡ suc n → m ≡ n
suc_same m n e = omega (arith, e)

zero_suc : (n : ℕ) → 0 ≡ suc n → ⊥
zero_suc n e = omega (arith, e)

suc_zero : (n : ℕ) → suc n ≡ 0 → ⊥
suc_zero n e = omega (arith, e)

unmarked_join : {A : Type 0} (bs cs : List Bool) (xs ys : List A) → length bs ≡ length xs → unmarked (bs ++ cs) (xs ++ ys) ≡ unmarked bs xs ++ unmarked cs ys
unmarked_join [] cs [] ys e = refl
unmarked_join [] cs (x ∷ xs) ys e = absurd (zero_suc (length xs) e)
unmarked_join (b ∷ bs) cs [] ys e = absurd (suc_zero (length bs) e)
unmarked_join (true ∷ bs) cs (x ∷ xs) ys e = unmarked_join bs cs xs ys (suc_same (length bs) (length xs) e)
unmarked_join {A} (false ∷ bs) cs (x ∷ xs) ys e = ap (λ (l : List A). x ∷ l) (unmarked_join bs cs xs ys (suc_same (length bs) (length xs) e))

falses_join : (bs cs : List Bool) → falses (bs ++ cs) ≡ falses bs + falses cs
falses_join [] cs = sym (zero-add (falses cs))
falses_join (true ∷ bs) cs = falses_join bs cs
falses_join (false ∷ bs) cs = let e = falses_join bs cs in omega (arith, e)

-- ---- requests of jobs

abbrev requests_in : List Job → List PendingRequest
requests_in [] = []
requests_in (job ∷ jobs) = request_in job ++ requests_in jobs

in_join : (a b : List Job) → requests_in (a ++ b) ≡ requests_in a ++ requests_in b
in_join [] b = refl
in_join (job ∷ a) b = ap (λ (l : List PendingRequest). request_in job ++ l) (in_join a b) ∙ sym (append_assoc (request_in job) (requests_in a) (requests_in b))

-- a job that has an answer is one request
abbrev HasOne : Job → Type 0
HasOne job = is_request job ≡ true → (r : PendingRequest) × (request_in job ≡ r ∷ [])

abbrev IsOne : Job → Type 0
IsOne job = (r : PendingRequest) × (request_in job ≡ r ∷ [])

none_in : (job : Job) → is_request job ≡ false → request_in job ≡ []
none_in (SubmitJob account pdu) e = absurd (true≢false e)
none_in (QueryJob account pdu) e = absurd (true≢false e)
none_in (CancelJob account pdu) e = absurd (true≢false e)
none_in (BoundJob account receives) e = refl
none_in UnboundJob e = refl
none_in (DeliverAnsweredJob id is_accepted) e = refl
none_in (LinkUp handset) e = refl
none_in LinkDown e = refl
none_in (FrameJob octets) e = refl

all_first : {A : Type 0} (P : A → Type 0) (xs ys : List A) → AllByRecursion P (xs ++ ys) → AllByRecursion P xs
all_first P [] ys h = tt
all_first P (x ∷ xs) ys h = (h.0, all_first P xs ys h.1)

all_behind : {A : Type 0} (P : A → Type 0) (xs ys : List A) → AllByRecursion P (xs ++ ys) → AllByRecursion P ys
all_behind P [] ys h = h
all_behind P (x ∷ xs) ys h = all_behind P xs ys h.1

-- what a session asks by its actions
asked_has : (o : Option Header) (job : Job) (request : Request) → request_in job ≡ pending_with o request → AllByRecursion HasOne (asked_with o job)
asked_has None job request e = tt
asked_has (Some header) job request e = ((λ is. (pending request header, e)), tt)

asked_is : (o : Option Header) (job : Job) (request : Request) → request_in job ≡ pending_with o request → requests_in (asked_with o job) ≡ pending_with o request
asked_is None job request e = refl
asked_is (Some header) job request e = ap (λ (l : List PendingRequest). l ++ []) e

action_has : (account : Option ℕ) (action : Action) → AllByRecursion HasOne (jobs_of account action)
action_has account (Send octets) = tt
action_has account (Bound place kind) = ((λ is. absurd (true≢false (sym is))), tt)
action_has account (Submit pdu priority) = asked_has (header_in pdu) (SubmitJob (account_of account) pdu) SubmitRequest refl
action_has account (Query pdu) = asked_has (header_in pdu) (QueryJob (account_of account) pdu) QueryRequest refl
action_has account (Cancel pdu) = asked_has (header_in pdu) (CancelJob (account_of account) pdu) CancelRequest refl
action_has account (DeliverAnswered number is_accepted) = tt
action_has account (BindRefused status name) = tt
action_has account Unbound = ((λ is. absurd (true≢false (sym is))), tt)

action_is : (account : Option ℕ) (action : Action) → requests_in (jobs_of account action) ≡ requests_of action
action_is account (Send octets) = refl
action_is account (Bound place kind) = refl
action_is account (Submit pdu priority) = asked_is (header_in pdu) (SubmitJob (account_of account) pdu) SubmitRequest refl
action_is account (Query pdu) = asked_is (header_in pdu) (QueryJob (account_of account) pdu) QueryRequest refl
action_is account (Cancel pdu) = asked_is (header_in pdu) (CancelJob (account_of account) pdu) CancelRequest refl
action_is account (DeliverAnswered number is_accepted) = refl
action_is account (BindRefused status name) = refl
action_is account Unbound = refl

from_has : (account : Option ℕ) (actions : List Action) → AllByRecursion HasOne (jobs_from account actions)
from_has account [] = tt
from_has account (action ∷ actions) =
    all_append HasOne (jobs_of account action) (jobs_from (account_behind account action) actions) (action_has account action) (from_has (account_behind account action) actions)

from_is : (account : Option ℕ) (actions : List Action) → requests_in (jobs_from account actions) ≡ requests_from actions
from_is account [] = refl
from_is account (action ∷ actions) =
    in_join (jobs_of account action) (jobs_from (account_behind account action) actions)
    ∙ (ap (λ (l : List PendingRequest). l ++ requests_in (jobs_from (account_behind account action) actions)) (action_is account action)
    ∙ ap (λ (l : List PendingRequest). requests_of action ++ l) (from_is (account_behind account action) actions))

-- an answer to a receipt is no request
session_is : (jobs : List Job) → requests_in (of_session jobs) ≡ requests_in jobs
session_is [] = refl
session_is (DeliverAnsweredJob id is_accepted ∷ jobs) = session_is jobs
session_is (SubmitJob account pdu ∷ jobs) = ap (λ (l : List PendingRequest). request_in (SubmitJob account pdu) ++ l) (session_is jobs)
session_is (QueryJob account pdu ∷ jobs) = ap (λ (l : List PendingRequest). request_in (QueryJob account pdu) ++ l) (session_is jobs)
session_is (CancelJob account pdu ∷ jobs) = ap (λ (l : List PendingRequest). request_in (CancelJob account pdu) ++ l) (session_is jobs)
session_is (BoundJob account receives ∷ jobs) = session_is jobs
session_is (UnboundJob ∷ jobs) = session_is jobs
session_is (LinkUp handset ∷ jobs) = session_is jobs
session_is (LinkDown ∷ jobs) = session_is jobs
session_is (FrameJob octets ∷ jobs) = session_is jobs

session_has : (jobs : List Job) → AllByRecursion HasOne (of_session jobs) → AllByRecursion HasOne jobs
session_has [] h = tt
session_has (DeliverAnsweredJob id is_accepted ∷ jobs) h = ((λ is. absurd (true≢false (sym is))), session_has jobs h)
session_has (SubmitJob account pdu ∷ jobs) h = (h.0, session_has jobs h.1)
session_has (QueryJob account pdu ∷ jobs) h = (h.0, session_has jobs h.1)
session_has (CancelJob account pdu ∷ jobs) h = (h.0, session_has jobs h.1)
session_has (BoundJob account receives ∷ jobs) h = (h.0, session_has jobs h.1)
session_has (UnboundJob ∷ jobs) h = (h.0, session_has jobs h.1)
session_has (LinkUp handset ∷ jobs) h = (h.0, session_has jobs h.1)
session_has (LinkDown ∷ jobs) h = (h.0, session_has jobs h.1)
session_has (FrameJob octets ∷ jobs) h = (h.0, session_has jobs h.1)

-- ---- those jobs alone that have an answer

requests_are : (jobs : List Job) → requests_in (requests_among jobs) ≡ requests_in jobs
requests_are [] = refl
requests_are (job ∷ jobs) = by_kind (is_request job) refl (requests_are jobs)
  where
    by_kind : (is : Bool) → is_request job ≡ is → requests_in (requests_among jobs) ≡ requests_in jobs
        → requests_in (if is then job ∷ requests_among jobs else requests_among jobs) ≡ request_in job ++ requests_in jobs
    by_kind true e rest = ap (λ (l : List PendingRequest). request_in job ++ l) rest
    by_kind false e rest = rest ∙ ap (λ (l : List PendingRequest). l ++ requests_in jobs) (sym (none_in job e))

each_one : (jobs : List Job) → AllByRecursion HasOne jobs → AllByRecursion IsOne (requests_among jobs)
each_one [] h = tt
each_one (job ∷ jobs) h = by_kind (is_request job) refl (each_one jobs h.1)
  where
    by_kind : (is : Bool) → is_request job ≡ is → AllByRecursion IsOne (requests_among jobs)
        → AllByRecursion IsOne (if is then job ∷ requests_among jobs else requests_among jobs)
    by_kind true e rest = (h.0 e, rest)
    by_kind false e rest = rest

counted_is : (jobs : List Job) → AllByRecursion HasOne jobs → length (requests_in jobs) ≡ count_among jobs
counted_is [] h = refl
counted_is (job ∷ jobs) h = by_kind (is_request job) refl (counted_is jobs h.1)
  where
    by_kind : (is : Bool) → is_request job ≡ is → length (requests_in jobs) ≡ count_among jobs
        → length (request_in job ++ requests_in jobs) ≡ (if is then suc (count_among jobs) else count_among jobs)
    by_kind true e rest = ap (λ (l : List PendingRequest). length (l ++ requests_in jobs)) (h.0 e).1 ∙ ap suc rest
    by_kind false e rest = ap (λ (l : List PendingRequest). length (l ++ requests_in jobs)) (none_in job e) ∙ rest

unmarked_ones : (bs : List Bool) (jobs : List Job) → AllByRecursion IsOne jobs → AllByRecursion IsOne (unmarked bs jobs)
unmarked_ones [] jobs h = tt
unmarked_ones (b ∷ bs) [] h = tt
unmarked_ones (true ∷ bs) (job ∷ jobs) h = unmarked_ones bs jobs h.1
unmarked_ones (false ∷ bs) (job ∷ jobs) h = (h.0, unmarked_ones bs jobs h.1)

first_in : (b : Bool) (bs : List Bool) (job : Job) (jobs : List Job) (request : PendingRequest) → request_in job ≡ request ∷ []
    → requests_in (unmarked bs jobs) ≡ unmarked bs (requests_in jobs)
    → requests_in (if b then unmarked bs jobs else job ∷ unmarked bs jobs) ≡ (if b then unmarked bs (requests_in jobs) else request ∷ unmarked bs (requests_in jobs))
first_in true bs job jobs request e rest = rest
first_in false bs job jobs request e rest =
    ap (λ (l : List PendingRequest). l ++ requests_in (unmarked bs jobs)) e ∙ ap (λ (l : List PendingRequest). request ∷ l) rest

unmarked_in : (bs : List Bool) (jobs : List Job) → AllByRecursion IsOne jobs → requests_in (unmarked bs jobs) ≡ unmarked bs (requests_in jobs)
unmarked_in [] jobs h = refl
unmarked_in (b ∷ bs) [] h = refl
unmarked_in (b ∷ bs) (job ∷ jobs) h =
    first_in b bs job jobs h.0.0 h.0.1 (unmarked_in bs jobs h.1) ∙ ap (λ (l : List PendingRequest). unmarked (b ∷ bs) (l ++ requests_in jobs)) (sym h.0.1)

-- ---- those that were not handed back

abbrev kept : List PendingRequest → List PendingRequest
kept [] = []
kept (request ∷ requests) = if was_back request then kept requests else request ∷ kept requests

kept_join : (a b : List PendingRequest) → kept (a ++ b) ≡ kept a ++ kept b
kept_join [] b = refl
kept_join (request ∷ a) b = by_mark (was_back request) (kept_join a b)
  where
    by_mark : (is : Bool) → kept (a ++ b) ≡ kept a ++ kept b
        → (if is then kept (a ++ b) else request ∷ kept (a ++ b)) ≡ (if is then kept a else request ∷ kept a) ++ kept b
    by_mark true rest = rest
    by_mark false rest = ap (λ (l : List PendingRequest). request ∷ l) rest

kept_is : (requests : List PendingRequest) → unmarked (map was_back requests) (map fresh requests) ≡ kept requests
kept_is [] = refl
kept_is (request ∷ requests) = by_mark (was_back request) refl (kept_is requests)
  where
    by_mark : (is : Bool) → was_back request ≡ is → unmarked (map was_back requests) (map fresh requests) ≡ kept requests
        → (if is then unmarked (map was_back requests) (map fresh requests) else fresh request ∷ unmarked (map was_back requests) (map fresh requests))
        ≡ (if is then kept requests else request ∷ kept requests)
    by_mark true e rest = rest
    by_mark false e rest =
        ap (λ (l : List PendingRequest). fresh request ∷ l) rest ∙ ap (λ (b : Bool). record request { is_throttled = b } ∷ kept requests) (sym e)

not_back_asked : (answers : List Answered) → map request_of (not_back answers) ≡ kept (map request_of answers)
not_back_asked [] = refl
not_back_asked (answered ∷ answers) = by_mark (was_back answered.0) (not_back_asked answers)
  where
    by_mark : (is : Bool) → map request_of (not_back answers) ≡ kept (map request_of answers)
        → map request_of (if is then not_back answers else answered ∷ not_back answers)
        ≡ (if is then kept (map request_of answers) else answered.0 ∷ kept (map request_of answers))
    by_mark true rest = rest
    by_mark false rest = ap (λ (l : List PendingRequest). answered.0 ∷ l) rest

abbrev answer_of : Answered → CentreAnswer
answer_of answered = answered.1

not_back_heard : (answers : List Answered) → map answer_of (not_back answers) ≡ answers_heard answers
not_back_heard [] = refl
not_back_heard (answered ∷ answers) = by_mark (was_back answered.0) (not_back_heard answers)
  where
    by_mark : (is : Bool) → map answer_of (not_back answers) ≡ answers_heard answers
        → map answer_of (if is then not_back answers else answered ∷ not_back answers)
        ≡ (if is then answers_heard answers else answered.1 ∷ answers_heard answers)
    by_mark true rest = rest
    by_mark false rest = ap (λ (l : List CentreAnswer). answered.1 ∷ l) rest

falses_kept : (requests : List PendingRequest) → falses (map was_back requests) ≡ length (kept requests)
falses_kept [] = refl
falses_kept (request ∷ requests) = by_mark (was_back request) (falses_kept requests)
  where
    by_mark : (is : Bool) → falses (map was_back requests) ≡ length (kept requests)
        → (if is then falses (map was_back requests) else suc (falses (map was_back requests)))
        ≡ length (if is then kept requests else request ∷ kept requests)
    by_mark true rest = rest
    by_mark false rest = ap suc rest

-- ---- lists of one beginning

abbrev head_or : {A : Type 0} → A → List A → A
head_or d [] = d
head_or d (x ∷ l) = x

abbrev tail_of : {A : Type 0} → List A → List A
tail_of [] = []
tail_of (x ∷ l) = l

same_front : {A : Type 0} (a b x y : List A) → length a ≡ length b → a ++ x ≡ b ++ y → a ≡ b
same_front [] [] x y n e = refl
same_front [] (j ∷ b) x y n e = absurd (zero_suc (length b) n)
same_front (i ∷ a) [] x y n e = absurd (suc_zero (length a) n)
same_front {A} (i ∷ a) (j ∷ b) x y n e =
    ap (λ (k : A). k ∷ a) (ap (head_or i) e) ∙ ap (λ (l : List A). j ∷ l) (same_front a b x y (suc_same (length a) (length b) n) (ap tail_of e))

front_of_same : {A : Type 0} (a b x y : List A) → a ++ x ≡ b ++ y → length x ≡ length y → a ≡ b
front_of_same {A} a b x y e n =
    let whole : length a + length x ≡ length b + length y = sym (length-append a x) ∙ (ap (λ (l : List A). length l) e ∙ length-append b y) in
    same_front a b x y (omega (arith, whole, n)) e

-- ---- each answer that was heard, to the request that it answers

no_answers : (answer : CentreAnswer) (answers : List CentreAnswer) → [] ≡ answer ∷ answers → ⊥
no_answers answer answers e = cc

no_requests : (request : PendingRequest) (requests : List PendingRequest) → [] ≡ request ∷ requests → ⊥
no_requests request requests e = cc

matched : (answers : List Answered) (xs : List Exchange) (jobs more : List Job) (rest : List PendingRequest) (others : List CentreAnswer)
    → map asked_in xs ≡ jobs ++ more → AllByRecursion IsOne jobs → requests_in jobs ≡ map request_of answers ++ rest → map answered_in xs ≡ map answer_of answers ++ others
    → (later : List Answered) × (answers_to xs ≡ answers ++ later)
matched [] xs jobs more rest others p ones q r = (answers_to xs, refl)
matched (k ∷ answers) [] jobs more rest others p ones q r = absurd (no_answers k.1 (map answer_of answers ++ others) r)
matched (k ∷ answers) (x ∷ xs) [] more rest others p ones q r = absurd (no_requests k.0 (map request_of answers ++ rest) q)
matched (k ∷ answers) (x ∷ xs) (job ∷ jobs) more rest others p ones q r =
    let all : ones.0.0 ∷ requests_in jobs ≡ k.0 ∷ (map request_of answers ++ rest) =
    ap (λ (l : List PendingRequest). l ++ requests_in jobs) (sym ones.0.1) ∙ q in
    let own : x.job ≡ job = ap (head_or x.job) p in
    let first : ones.0.0 ≡ k.0 = ap (head_or k.0) all in
    let answer : x.answer ≡ k.1 = ap (head_or x.answer) r in
    let h = matched answers xs jobs more rest others (ap tail_of p) ones.1 (ap tail_of all) (ap tail_of r) in
    let asked : request_in x.job ≡ k.0 ∷ [] = ap request_in own ∙ (ones.0.1 ∙ ap (λ (r : PendingRequest). r ∷ []) first) in (
      h.0,
      ap (λ (l : List PendingRequest). map (answered_with x.answer) l ++ answers_to xs) asked
          ∙ (ap (λ (a : CentreAnswer). answered_with a k.0 ∷ answers_to xs) answer ∙ ap (λ (l : List Answered). k ∷ l) h.1),
    )

-- ---- a session while it is served

-- These requests were put, so many of them have no answer yet, and these answers were heard.
record Along (accounts : List Account) (t : EsmeTurns) (puts : List Job) (awaited : ℕ) (answers : List CentreAnswer) : Type 0 where
  turns : HasTurns t
  progress : IsEsmeProgress accounts t.progress
  same : length t.back ≡ length (requests_among t.progress.left)
  puts_so : unmarked t.back (requests_among t.progress.left) ≡ puts
  count : falses t.back ≡ length t.heard + awaited
  heard_so : t.heard ≡ answers

both_long : (answers : List Answered) → length (map request_of answers) ≡ length (map answer_of answers)
both_long [] = refl
both_long (answered ∷ answers) = ap suc (both_long answers)

-- an answer that is due is one to a request that the keeper has
due_by : (t : EsmeTurns) (h : HasTurns t) (awaited : ℕ) → falses t.back ≡ length t.heard + awaited → 0 < awaited → (handed : List PendingRequest) → h.handed ≡ handed
    → count_among t.progress.esme.outbox.jobs < length t.progress.esme.waiting
due_by t h awaited count due [] e =
    let asked = map request_of t.progress.answers in
    let marks : map was_back asked ≡ t.back =
    ap (map was_back) (sym (append-nil asked) ∙ ap (λ (l : List PendingRequest). asked ++ l) (sym e)) ∙ h.marks in
    let number : falses t.back ≡ length t.heard =
    ap falses (sym marks) ∙ (falses_kept asked ∙ (ap (λ (l : List PendingRequest). length l) (sym (not_back_asked t.progress.answers))
    ∙ (both_long (not_back t.progress.answers) ∙ ap (λ (l : List CentreAnswer). length l) (not_back_heard t.progress.answers ∙ h.heard)))) in
    absurd (none_due (falses t.back) (length t.heard) awaited count number due)
  where
    none_due : (n m k : ℕ) → n ≡ m + k → n ≡ m → 0 < k → ⊥
    none_due n m k e f d = omega (arith, e, f, d)
due_by t h awaited count due (one ∷ others) e =
    more (length t.progress.esme.waiting) (length others) (length h.queued) (count_among t.progress.esme.outbox.jobs)
    (ap (λ (l : List PendingRequest). length l) (h.split ∙ ap (λ (l : List PendingRequest). l ++ h.queued) e) ∙ length-append (one ∷ others) h.queued) h.count
  where
    more : (w n q c : ℕ) → w ≡ suc n + q → q ≡ c → c < w
    more w n q c e f = omega (arith, e, f)

due_in_turn : (t : EsmeTurns) (h : HasTurns t) (awaited : ℕ) → falses t.back ≡ length t.heard + awaited → 0 < awaited
    → count_among t.progress.esme.outbox.jobs < length t.progress.esme.waiting
due_in_turn t h awaited count due = due_by t h awaited count due h.handed refl

module _ (accounts : List Account) (t : EsmeTurns) (puts : List Job) (awaited : ℕ) (answers : List CentreAnswer) (h : Along accounts t puts awaited answers) where
  abbrev Lasts : EsmeCall → Type 0
  Lasts x = (called_once t.progress x).esme.wrong_binds ≢ 0

  turns_then : (x : EsmeCall) → IsInTurn t x → Lasts x → HasTurns (turned t x)
  turns_then x in_turn some = turns_hold accounts (x ∷ []) t h.turns h.progress (in_turn, tt) some

  -- nothing is handed out, and no answer is heard
  quiet : (x : EsmeCall) → IsInTurn t x → Lasts x → (called_once t.progress x).left ≡ t.progress.left → back_by t x ≡ [] → heard_in x ≡ []
      → Along accounts (turned t x) puts awaited answers
  quiet x in_turn some left back none =
      let back_so : t.back ++ back_by t x ≡ t.back = ap (λ (l : List Bool). t.back ++ l) back ∙ append-nil t.back in
      let heard_so : t.heard ++ heard_in x ≡ t.heard = ap (λ (l : List CentreAnswer). t.heard ++ l) none ∙ append-nil t.heard in record {
        turns = turns_then x in_turn some;
        progress = one_call accounts x t.progress h.progress some;
        same = ap (λ (l : List Bool). length l) back_so ∙ (h.same ∙ ap (λ (l : List Job). length (requests_among l)) (sym left));
        puts_so = ap (λ (l : List Bool). unmarked l (requests_among (called_once t.progress x).left)) back_so
            ∙ (ap (λ (l : List Job). unmarked t.back (requests_among l)) left ∙ h.puts_so);
        count = ap falses back_so ∙ (h.count ∙ ap (λ (l : List CentreAnswer). length l + awaited) (sym heard_so));
        heard_so = heard_so ∙ h.heard_so;
      }

  answered : (answer : CentreAnswer) → 0 < awaited → Lasts (Hear (Answer answer)) → Along accounts (turned t (Hear (Answer answer))) puts (awaited - 1) (answers ++ answer ∷ [])
  answered answer due some =
      let back_so : t.back ++ [] ≡ t.back = append-nil t.back in record {
        turns = turns_then (Hear (Answer answer)) (due_in_turn t h.turns awaited h.count due) some;
        progress = one_call accounts (Hear (Answer answer)) t.progress h.progress some;
        same = ap (λ (l : List Bool). length l) back_so ∙ h.same;
        puts_so = ap (λ (l : List Bool). unmarked l (requests_among t.progress.left)) back_so ∙ h.puts_so;
        count = ap falses back_so ∙ one_less (falses t.back) (length t.heard) (length (t.heard ++ answer ∷ [])) h.count (length-append t.heard (answer ∷ []));
        heard_so = ap (λ (l : List CentreAnswer). l ++ answer ∷ []) h.heard_so;
      }
    where
      one_less : (n m k : ℕ) → n ≡ m + awaited → k ≡ m + 1 → n ≡ k + (awaited - 1)
      one_less n m k e f = omega (arith, e, f, due)

  abbrev one_if : Bool → Job → List Job
  one_if is job = if is then job ∷ [] else []

  -- a job is handed out: it is put, or handed back
  module _ (x : EsmeCall) (in_turn : IsInTurn t x) (some : Lasts x) (job : Job) (none : heard_in x ≡ []) where
    handed : (is back : Bool) → is_request job ≡ is → requests_among (called_once t.progress x).left ≡ requests_among t.progress.left ++ one_if is job
        → back_by t x ≡ (if is then back ∷ [] else [])
        → Along accounts (turned t x) (puts ++ (if back then [] else one_if is job)) (if back then awaited else awaited_with job awaited) answers
    handed is back e left marks =
        let heard_so : t.heard ++ heard_in x ≡ t.heard = ap (λ (l : List CentreAnswer). t.heard ++ l) none ∙ append-nil t.heard in record {
          turns = turns_then x in_turn some;
          progress = one_call accounts x t.progress h.progress some;
          same = ap (λ (l : List Bool). length (t.back ++ l)) marks ∙ (same_by is ∙ ap (λ (l : List Job). length l) (sym left));
          puts_so = ap (λ (l : List Bool). unmarked (t.back ++ l) (requests_among (called_once t.progress x).left)) marks
              ∙ (ap (λ (l : List Job). unmarked (t.back ++ (if is then back ∷ [] else [])) l) left
              ∙ (unmarked_join t.back (if is then back ∷ [] else []) (requests_among t.progress.left) (one_if is job) h.same
              ∙ (ap (λ (l : List Job). l ++ unmarked (if is then back ∷ [] else []) (one_if is job)) h.puts_so ∙ ap (λ (l : List Job). puts ++ l) (puts_by is back))));
          count = ap (λ (l : List Bool). falses (t.back ++ l)) marks
              ∙ (falses_join t.back (if is then back ∷ [] else [])
              ∙ (count_by is back e (falses t.back) (length t.heard) h.count ∙ ap (λ (l : List CentreAnswer). length l + (if back then awaited else awaited_with job awaited)) (sym heard_so)));
          heard_so = heard_so ∙ h.heard_so;
        }
      where
        same_by : (is : Bool) → length (t.back ++ (if is then back ∷ [] else [])) ≡ length (requests_among t.progress.left ++ one_if is job)
        same_by true =
            length-append t.back (back ∷ []) ∙ (ap (λ (n : ℕ). n + 1) h.same ∙ sym (length-append (requests_among t.progress.left) (job ∷ [])))
        same_by false = ap (λ (l : List Bool). length l) (append-nil t.back) ∙ (h.same ∙ ap (λ (l : List Job). length l) (sym (append-nil (requests_among t.progress.left))))

        puts_by : (is back : Bool) → unmarked (if is then back ∷ [] else []) (one_if is job) ≡ (if back then [] else one_if is job)
        puts_by true true = refl
        puts_by true false = refl
        puts_by false true = refl
        puts_by false false = refl

        plus_zero : (n m : ℕ) → n ≡ m + awaited → n + 0 ≡ m + awaited
        plus_zero n m f = omega (arith, f)

        plus_one : (n m : ℕ) → n ≡ m + awaited → n + 1 ≡ m + suc awaited
        plus_one n m f = omega (arith, f)

        count_by : (is back : Bool) → is_request job ≡ is → (n m : ℕ) → n ≡ m + awaited → n + falses (if is then back ∷ [] else []) ≡ m + (if back then awaited else awaited_with job awaited)
        count_by true true e n m f = plus_zero n m f
        count_by false true e n m f = plus_zero n m f
        count_by true false e n m f = plus_one n m f ∙ ap (λ (b : Bool). m + (if b then suc awaited else awaited)) (sym e)
        count_by false false e n m f = plus_zero n m f ∙ ap (λ (b : Bool). m + (if b then suc awaited else awaited)) (sym e)

-- ---- a call of the loop

left_if : (b : Bool) (c d : EsmeProgress) (left : List Job) → c.left ≡ left → d.left ≡ left → (if b then c else d).left ≡ left
left_if true c d left p q = p
left_if false c d left p q = q

abbrev own_requests : Call → List Job
own_requests call = requests_among (jobs_among (jobs_put (call ∷ [])))

abbrev own_answers : Call → List CentreAnswer
own_answers call = answers_among (replies_taken (call ∷ []))

-- so many answers are still to come behind a call of a connection that is served
abbrev awaited_behind : Call → ℕ → ℕ
awaited_behind (Put job) awaited = awaited_with job awaited
awaited_behind (Heard reply went) awaited = awaited_after reply awaited
awaited_behind call awaited = awaited

-- an answer is one to come
abbrev IsAwaited : Reply → ℕ → Type 0
IsAwaited (Answer answer) awaited = 0 < awaited
IsAwaited reply awaited = ⊤

abbrev IsCallDue : Call → ℕ → Type 0
IsCallDue (Heard reply went) awaited = IsAwaited reply awaited
IsCallDue call awaited = ⊤

-- so many requests of the seat have no answer yet
module _ (put : List (Option Job)) (taken : List Reply) (awaited : ℕ) (count : requests_put put ≡ answers_got taken + awaited) where
  reply_due : (reply : Reply) → is_ahead put (taken ++ reply ∷ []) ≡ false → IsAwaited reply awaited
  reply_due (Answer answer) due = by_count awaited count
    where
      by_count : (n : ℕ) → requests_put put ≡ answers_got taken + n → 0 < n
      by_count zero e =
          let more : answers_got (taken ++ Answer answer ∷ []) ≡ suc (answers_got taken) = answers_more taken answer in
          absurd (true≢false (sym (lt-ltb (requests_put put) (answers_got (taken ++ Answer answer ∷ [])) (omega (arith, e, more))) ∙ due))
      by_count (suc n) e = omega arith
  reply_due (Receipt end) due = tt
  reply_due (Frame octets) due = tt
  reply_due Taken due = tt

  call_due : (call : Call) → IsDue put taken call → IsCallDue call awaited
  call_due (Heard reply went) due = reply_due reply due
  call_due call due = tt

  -- none was put, and none taken
  count_still : requests_put (put ++ []) ≡ answers_got (taken ++ []) + awaited
  count_still =
      ap requests_put (append-nil put) ∙ (count ∙ ap (λ (l : List Reply). answers_got l + awaited) (sym (append-nil taken)))

  count_heard : (reply : Reply) → IsAwaited reply awaited → requests_put (put ++ []) ≡ answers_got (taken ++ reply ∷ []) + awaited_after reply awaited
  count_heard (Answer answer) due =
      ap requests_put (append-nil put)
      ∙ (one_less (requests_put put) (answers_got taken) awaited count due ∙ ap (λ (n : ℕ). n + (awaited - 1)) (sym (answers_more taken answer)))
    where
      one_less : (r a w : ℕ) → r ≡ a + w → 0 < w → r ≡ suc a + (w - 1)
      one_less r a zero e d = omega (arith, e, d)
      one_less r a (suc w) e d = omega (arith, e, d)
  count_heard (Receipt end) due =
      ap requests_put (append-nil put) ∙ (count ∙ ap (λ (n : ℕ). n + awaited) (sym (answers_same taken (Receipt end) refl)))
  count_heard (Frame octets) due =
      ap requests_put (append-nil put) ∙ (count ∙ ap (λ (n : ℕ). n + awaited) (sym (answers_same taken (Frame octets) refl)))
  count_heard Taken due =
      ap requests_put (append-nil put) ∙ (count ∙ ap (λ (n : ℕ). n + awaited) (sym (answers_same taken Taken refl)))

  count_put : (job : Job) → requests_put (put ++ Some job ∷ []) ≡ answers_got (taken ++ []) + awaited_with job awaited
  count_put job =
      requests_next put job
      ∙ (one_more (is_request job) (requests_put put) (answers_got taken) count
      ∙ ap (λ (l : List Reply). answers_got l + awaited_with job awaited) (sym (append-nil taken)))
    where
      one_more : (b : Bool) (r a : ℕ) → r ≡ a + awaited → (if b then suc r else r) ≡ a + (if b then suc awaited else awaited)
      one_more true r a e = omega (arith, e)
      one_more false r a e = e

  count_then : (call : Call) → IsCallDue call awaited → (o : Phase) → Moves call Serves o → o ≡ Serves
      → requests_put (put ++ jobs_put (call ∷ [])) ≡ answers_got (taken ++ replies_taken (call ∷ [])) + awaited_behind call awaited
  count_then (Heard reply went) due o m e = count_heard reply due
  count_then (Put job) due o m e = count_put job
  count_then (PutLast job) due o m e = let never : Ends ≡ Serves = sym m.1 ∙ e in absurd cc
  count_then (PutOwn job) due o m e = let never : Asks ≡ Serves = sym m.1 ∙ e in absurd cc
  count_then (Dropped reply) due o m e = absurd m.0
  count_then (Refused reply) due o m e = absurd (fails o m.1 e)
  count_then _ due o m e = count_still

module _ (accounts : List Account) (t : EsmeTurns) (puts : List Job) (awaited : ℕ) (answers : List CentreAnswer) (h : Along accounts t puts awaited answers) where
  abbrev Then : Call → Type 0
  Then call = Along accounts (turned_all t (call_of call)) (puts ++ own_requests call) (awaited_behind call awaited) (answers ++ own_answers call)

  -- none was put, and none heard
  still : (u : EsmeTurns) → Along accounts u puts awaited answers → Along accounts u (puts ++ []) awaited (answers ++ [])
  still u k =
      subst (λ (l : List CentreAnswer). Along accounts u (puts ++ []) awaited l) (sym (append-nil answers))
      (subst (λ (l : List Job). Along accounts u l awaited answers) (sym (append-nil puts)) k)

  only_puts : (u : EsmeTurns) (more : List Job) (n : ℕ) → Along accounts u (puts ++ more) n answers → Along accounts u (puts ++ more) n (answers ++ [])
  only_puts u more n k = subst (λ (l : List CentreAnswer). Along accounts u (puts ++ more) n l) (sym (append-nil answers)) k

  abbrev Any : Call → Type 0
  Any call = (called_all t.progress (call_of call)).esme.wrong_binds ≢ 0

  step_quiet : (x : EsmeCall) → IsInTurn t x → (called_once t.progress x).esme.wrong_binds ≢ 0 → (called_once t.progress x).left ≡ t.progress.left → back_by t x ≡ [] → heard_in x ≡ []
      → Along accounts (turned t x) (puts ++ []) awaited (answers ++ [])
  step_quiet x in_turn some left back none = still (turned t x) (quiet accounts t puts awaited answers h x in_turn some left back none)

  put_then : (job : Job) (u : EsmeView) → (Some job, u) ≡ handed_out t.progress.esme → (called_once t.progress HandOut).esme.wrong_binds ≢ 0
      → Along accounts (turned t HandOut) (puts ++ own_requests (Put job)) (awaited_with job awaited) (answers ++ [])
  put_then job u l some =
      let left : (called_once t.progress HandOut).left ≡ t.progress.left ++ job ∷ [] = ap (λ (q : Option Job × EsmeView). (put_by q t.progress).left) (sym l) in
      only_puts (turned t HandOut) (own_requests (Put job)) (awaited_with job awaited)
      (handed accounts t puts awaited answers h HandOut tt some job refl (is_request job) false refl
      (ap requests_among left ∙ requests_join t.progress.left (job ∷ []))
      (ap (λ (q : Option Job × EsmeView). if_request false q.0) (sym l)))

  back_if : (job : Job) (d : EsmeView) (is : Bool) → is_request job ≡ is
      → handed_back job d ≡ (if is then (false, request_back d) else (true, record d { outbox = with_next job d.outbox }))
  back_if job d is e = ap (λ (b : Bool). if b then (false, request_back d) else (true, record d { outbox = with_next job d.outbox })) e

  back_left : (job : Job) (d : EsmeView) (is : Bool) → is_request job ≡ is
      → requests_among (taken_back job d (handed_back job d) t.progress).left ≡ requests_among t.progress.left ++ (if is then job ∷ [] else [])
  back_left job d true e =
      ap (λ (q : Bool × EsmeView). requests_among (taken_back job d q t.progress).left) (back_if job d true e)
      ∙ (requests_join t.progress.left (job ∷ []) ∙ ap (λ (b : Bool). requests_among t.progress.left ++ (if b then job ∷ [] else [])) e)
  back_left job d false e =
      ap (λ (q : Bool × EsmeView). requests_among (taken_back job d q t.progress).left) (back_if job d false e) ∙ sym (append-nil (requests_among t.progress.left))

  back_then : (job : Job) (d : EsmeView) → (Some job, d) ≡ handed_out t.progress.esme → (called_once t.progress HandOutAndBack).esme.wrong_binds ≢ 0
      → Along accounts (turned t HandOutAndBack) (puts ++ []) awaited (answers ++ [])
  back_then job d l some =
      only_puts (turned t HandOutAndBack) [] awaited
      (handed accounts t puts awaited answers h HandOutAndBack tt some job refl (is_request job) true refl
      (ap (λ (q : Option Job × EsmeView). requests_among (put_back_by q t.progress).left) (sym l) ∙ back_left job d (is_request job) refl)
      (ap (λ (q : Option Job × EsmeView). if_request true q.0) (sym l)))

  step : (call : Call) (u : EsmeView) → LeadsTo EsmeDoes call t.progress.esme u → (o : Phase) → Moves call Serves o → o ≡ Serves → IsCallDue call awaited → Any call → Then call
  step (Timed now true) u l o m e due some = step_quiet (At now) tt some refl refl refl
  step (Timed now false) u l o m e due some = absurd (fails o m.1 e)
  step (Told full) u l o m e due some = step_quiet (TellFull full) tt some refl refl refl
  step (Took octets true) u l o m e due some = step_quiet (Take octets) tt some refl refl refl
  step (Took octets false) u l o m e due some = absurd (fails o m.1 e)
  step (Heard (Answer answer) true) u l o m e due some =
      subst (λ (l : List Job). Along accounts (turned t (Hear (Answer answer))) l (awaited - 1) (answers ++ answer ∷ [])) (sym (append-nil puts))
      (answered accounts t puts awaited answers h answer due some)
  step (Heard (Receipt end) true) u l o m e due some =
      let c = t.progress in
      step_quiet (Hear (Receipt end)) tt some
      (left_if (is_sendable end) (after_delivered end (called c.esme.session (Deliver (receipt_of end))) c) (with_esme (heard (Receipt end) c.esme) c) c.left refl refl) refl refl
  step (Heard (Frame octets) true) u l o m e due some = step_quiet (Hear (Frame octets)) tt some refl refl refl
  step (Heard Taken true) u l o m e due some = step_quiet (Hear Taken) tt some refl refl refl
  step (Heard reply false) u l o m e due some = absurd (fails o m.1 e)
  step (GaveUp true) u l o m e due some = step_quiet (Say no_room) tt some refl refl refl
  step (GaveUp false) u l o m e due some = absurd (fails o m.1 e)
  step (AskedLink true) u l o m e due some = step_quiet (Say enquire_link) tt some refl refl refl
  step (AskedLink false) u l o m e due some = absurd (fails o m.1 e)
  step (AskedToLeave asked true) u l o m e due some = step_quiet Leave tt some refl refl refl
  step (AskedToLeave asked false) u l o m e due some = absurd (fails o m.1 e)
  step (Noted said) u l o m e due some = step_quiet Tell tt some refl refl refl
  step (Sent octets) u l o m e due some = step_quiet (WasSent (length octets)) tt some refl refl refl
  step (Put job) u l o m e due some = put_then job u l some
  step (PutBack job again true) u l o m e due some = back_then job l.0 l.1 some
  step (PutBack job again false) u l o m e due some = absurd (fails o m.1 e)
  step (Left last) u l o m e due some = let never : Leaves last ≡ Serves = sym m.1 ∙ e in absurd cc
  step (PutLast job) u l o m e due some = let never : Ends ≡ Serves = sym m.1 ∙ e in absurd cc
  step (PutOwn job) u l o m e due some = let never : Asks ≡ Serves = sym m.1 ∙ e in absurd cc
  step (Dropped reply) u l o m e due some = absurd m.0
  step (Refused reply) u l o m e due some = absurd (fails o m.1 e)

-- the endpoint behind the call is that of the session's course
esme_then : (call : Call) (c : EsmeProgress) (u : EsmeView) → LeadsTo EsmeDoes call c.esme u → (o : Phase) → Moves call Serves o → o ≡ Serves
    → (called_all c (call_of call)).esme ≡ u
esme_then (Timed now true) c u l o m e = sym l
esme_then (Timed now false) c u l o m e = absurd (fails o m.1 e)
esme_then (Told full) c u l o m e = sym l
esme_then (Took octets true) c u l o m e = sym l
esme_then (Took octets false) c u l o m e = absurd (fails o m.1 e)
esme_then (Heard (Answer answer) true) c u l o m e = sym l
esme_then (Heard (Receipt end) true) c u l o m e =
    let v = heard (Receipt end) c.esme in
    heard_if (is_sendable end) (after_delivered end (called c.esme.session (Deliver (receipt_of end))) c) (with_esme v c) v refl refl ∙ sym l
esme_then (Heard (Frame octets) true) c u l o m e = sym l
esme_then (Heard Taken true) c u l o m e = sym l
esme_then (Heard reply false) c u l o m e = absurd (fails o m.1 e)
esme_then (GaveUp true) c u l o m e = sym l
esme_then (GaveUp false) c u l o m e = absurd (fails o m.1 e)
esme_then (AskedLink true) c u l o m e = sym l
esme_then (AskedLink false) c u l o m e = absurd (fails o m.1 e)
esme_then (AskedToLeave asked true) c u l o m e = sym (ap (λ (q : Bool × EsmeView). q.1) l)
esme_then (AskedToLeave asked false) c u l o m e = absurd (fails o m.1 e)
esme_then (Noted said) c u l o m e = sym (ap (λ (q : Option Note × EsmeView). q.1) l)
esme_then (Sent octets) c u l o m e = sym l.1
esme_then (Put job) c u l o m e = ap (λ (q : Option Job × EsmeView). (put_by q c).esme) (sym l)
esme_then (PutBack job again true) c u l o m e =
    ap (λ (q : Option Job × EsmeView). (put_back_by q c).esme) (sym l.1)
    ∙ (ap (λ (q : Bool × EsmeView). (taken_back job l.0 q c).esme) (sym l.2) ∙ back_esme again)
  where
    back_esme : (again : Bool) → (taken_back job l.0 (again, u) c).esme ≡ u
    back_esme true = refl
    back_esme false = refl
esme_then (PutBack job again false) c u l o m e = absurd (fails o m.1 e)
esme_then (Left last) c u l o m e = let never : Leaves last ≡ Serves = sym m.1 ∙ e in absurd cc
esme_then (PutLast job) c u l o m e = let never : Ends ≡ Serves = sym m.1 ∙ e in absurd cc
esme_then (PutOwn job) c u l o m e = let never : Asks ≡ Serves = sym m.1 ∙ e in absurd cc
esme_then (Dropped reply) c u l o m e = absurd m.0
esme_then (Refused reply) c u l o m e = absurd (fails o m.1 e)

-- ---- calls one after the other

turned_append : (xs ys : List EsmeCall) (t : EsmeTurns) → turned_all t (xs ++ ys) ≡ turned_all (turned_all t xs) ys
turned_append [] ys t = refl
turned_append (x ∷ xs) ys t = turned_append xs ys (turned t x)

serves_on : (o : Phase) (calls : List Call) (u w : EsmeView) → Runs EsmeDoes u o calls w Serves → o ≡ Serves
serves_on o calls u w r = ⊎_elim (λ (e : o ≡ Serves). e) (λ (away : o ≡ Serves → ⊥). absurd (stays_away calls u o w r away)) (is_serving o)

puts_first : (call : Call) (calls : List Call) → requests_among (jobs_among (jobs_put (call ∷ calls))) ≡ own_requests call ++ requests_among (jobs_among (jobs_put calls))
puts_first call calls =
    ap (λ (l : List (Option Job)). requests_among (jobs_among l)) (jobs_put_join (call ∷ []) calls)
    ∙ (ap requests_among (jobs_join (jobs_put (call ∷ [])) (jobs_put calls)) ∙ requests_join (jobs_among (jobs_put (call ∷ []))) (jobs_among (jobs_put calls)))

answers_first : (call : Call) (calls : List Call) → answers_among (replies_taken (call ∷ calls)) ≡ own_answers call ++ answers_among (replies_taken calls)
answers_first call calls = ap answers_among (replies_taken_join (call ∷ []) calls) ∙ answers_join (replies_taken (call ∷ [])) (replies_taken calls)

-- some moment behind these calls
abbrev EndsAlong : List Account → EsmeTurns → List Job → List CentreAnswer → Type 0
EndsAlong accounts t puts answers = (awaited : ℕ) × Along accounts t puts awaited answers

along_all : (accounts : List Account) (calls : List Call) (t : EsmeTurns) (puts : List Job) (awaited : ℕ) (answers : List CentreAnswer) (w : EsmeView)
    → Along accounts t puts awaited answers → Runs EsmeDoes t.progress.esme Serves calls w Serves
    → (put : List (Option Job)) (taken : List Reply) → requests_put put ≡ answers_got taken + awaited → AreDue put taken calls
    → (called_all t.progress (calls_of calls)).esme.wrong_binds ≢ 0
    → EndsAlong accounts (turned_all t (calls_of calls)) (puts ++ requests_among (jobs_among (jobs_put calls))) (answers ++ answers_among (replies_taken calls))
along_all accounts [] t puts awaited answers w h r put taken count due some = (awaited, still accounts t puts awaited answers h t h)
along_all accounts (call ∷ calls) t puts awaited answers w h r put taken count due some =
    let o = r.1 in
    let serves = serves_on o calls r.0 w r.4 in
    let now_due = call_due put taken awaited count call due.0 in
    let rest : (called_all (called_all t.progress (call_of call)) (calls_of calls)).esme.wrong_binds ≢ 0 =
    λ z. some (ap (λ (c : EsmeProgress). c.esme.wrong_binds) (called_append (call_of call) (calls_of calls) t.progress) ∙ z) in
    let now : (called_all t.progress (call_of call)).esme.wrong_binds ≢ 0 = λ z. rest (all_zero (calls_of calls) (called_all t.progress (call_of call)) z) in
    let next = turned_all t (call_of call) in
    let is = progress_of (call_of call) t in
    let esme : next.progress.esme ≡ r.0 = ap (λ (c : EsmeProgress). c.esme) is ∙ esme_then call t.progress r.0 r.2 o r.3 serves in
    let own = step accounts t puts awaited answers h call r.0 r.2 o r.3 serves now_due now in
    let all = along_all accounts calls next (puts ++ own_requests call) (awaited_behind call awaited) (answers ++ own_answers call) w own
    (subst (λ (v : EsmeView). Runs EsmeDoes v Serves calls w Serves) (sym esme) (subst (λ (p : Phase). Runs EsmeDoes r.0 p calls w Serves) serves r.4))
    (put ++ jobs_put (call ∷ [])) (taken ++ replies_taken (call ∷ [])) (count_then put taken awaited count call now_due o r.3 serves) due.1
    (λ z. rest (ap (λ (c : EsmeProgress). (called_all c (calls_of calls)).esme.wrong_binds) (sym is) ∙ z)) in (
      all.0,
      subst (λ (u : EsmeTurns). Along accounts u (puts ++ requests_among (jobs_among (jobs_put (call ∷ calls)))) all.0 (answers ++ answers_among (replies_taken (call ∷ calls))))
          (sym (turned_append (call_of call) (calls_of calls) t))
          (subst (λ (l : List Job). Along accounts (turned_all next (calls_of calls)) l all.0 (answers ++ answers_among (replies_taken (call ∷ calls))))
          (append_assoc puts (own_requests call) (requests_among (jobs_among (jobs_put calls))) ∙ ap (λ (l : List Job). puts ++ l) (sym (puts_first call calls)))
          (subst (λ (l : List CentreAnswer). Along accounts (turned_all next (calls_of calls)) ((puts ++ own_requests call) ++ requests_among (jobs_among (jobs_put calls))) all.0 l)
          (append_assoc answers (own_answers call) (answers_among (replies_taken calls)) ∙ ap (λ (l : List CentreAnswer). answers ++ l) (sym (answers_first call calls))) all.1)),
    )

-- ---- what it leads to

fresh_long : (requests : List PendingRequest) → length (map fresh requests) ≡ length requests
fresh_long [] = refl
fresh_long (request ∷ requests) = ap suc (fresh_long requests)

module _ (accounts : List Account) (t : EsmeTurns) (puts : List Job) (awaited : ℕ) (answers : List CentreAnswer) (h : Along accounts t puts awaited answers) where
  abbrev left : List Job
  left = t.progress.left

  abbrev queue : List Job
  queue = t.progress.esme.outbox.jobs

  abbrev answered_so : List PendingRequest
  answered_so = map request_of t.progress.answers ++ h.turns.handed

  all_have : AllByRecursion HasOne (left ++ queue)
  all_have = session_has (left ++ queue) (subst (λ (l : List Job). AllByRecursion HasOne l) (sym h.progress.jobs) (from_has None t.progress.actions))

  left_is : requests_in left ≡ map fresh answered_so
  left_is =
      let asked = map request_of t.progress.answers in
      let queued = h.turns.queued in
      let waits : asked ++ t.progress.esme.waiting ≡ answered_so ++ queued =
      ap (λ (l : List PendingRequest). asked ++ l) h.turns.split ∙ sym (append_assoc asked h.turns.handed queued) in
      let whole : requests_in left ++ requests_in queue ≡ map fresh answered_so ++ map fresh queued =
      sym (in_join left queue) ∙ (sym (session_is (left ++ queue)) ∙ (ap requests_in h.progress.jobs ∙ (from_is None t.progress.actions
      ∙ (sym h.progress.requests ∙ (ap (map fresh) waits ∙ map-append fresh answered_so queued))))) in
      let number : length (requests_in queue) ≡ length (map fresh queued) =
      counted_is queue (all_behind HasOne left queue all_have) ∙ (sym h.turns.count ∙ sym (fresh_long queued)) in
      front_of_same (requests_in left) (map fresh answered_so) (requests_in queue) (map fresh queued) whole number

  ones : AllByRecursion IsOne (requests_among left)
  ones = each_one left (all_first HasOne left queue all_have)

  puts_ones : AllByRecursion IsOne puts
  puts_ones = subst (λ (l : List Job). AllByRecursion IsOne l) h.puts_so (unmarked_ones t.back (requests_among left) ones)

  puts_are : requests_in puts ≡ map request_of (not_back t.progress.answers) ++ kept h.turns.handed
  puts_are =
      let asked = map request_of t.progress.answers in
      ap requests_in (sym h.puts_so)
      ∙ (unmarked_in t.back (requests_among left) ones
      ∙ (ap (λ (l : List PendingRequest). unmarked t.back l) (requests_are left ∙ left_is)
      ∙ (ap (λ (l : List Bool). unmarked l (map fresh answered_so)) (sym h.turns.marks)
      ∙ (kept_is answered_so ∙ (kept_join asked h.turns.handed ∙ ap (λ (l : List PendingRequest). l ++ kept h.turns.handed) (sym (not_back_asked t.progress.answers)))))))

  have_answers : (xs : List Exchange) (more : List Job) (others : List CentreAnswer) → map asked_in xs ≡ puts ++ more → map answered_in xs ≡ answers ++ others
      → HasCentresAnswers xs t.progress.answers
  have_answers xs more others p q =
      let heard : answers ≡ map answer_of (not_back t.progress.answers) = sym h.heard_so ∙ (sym h.turns.heard ∙ sym (not_back_heard t.progress.answers)) in
      let m = matched (not_back t.progress.answers) xs puts more (kept h.turns.handed) others p puts_ones puts_are
      (q ∙ ap (λ (l : List CentreAnswer). l ++ others) heard) in
      record { later = m.0; own = m.1; throttled = h.turns.throttled }

start_along : (accounts : List Account) → Along accounts (begun accounts) [] 0 []
start_along accounts = record { turns = begins_turns accounts; progress = begins_progress accounts; same = refl; puts_so = refl; count = refl; heard_so = refl }

none_awaited : (r a : ℕ) → r ≡ a → r ≡ a + 0
none_awaited r a e = omega (arith, e)

due_first : (put : List (Option Job)) (taken : List Reply) (one other : List Call) → AreDue put taken (one ++ other) → AreDue put taken one
due_first put taken [] other h = tt
due_first put taken (call ∷ one) other h = (h.0, due_first (put ++ jobs_put (call ∷ [])) (taken ++ replies_taken (call ∷ [])) one other h.1)

module _ (accounts : List Account) (calls : List Call) (xs : List Exchange) (h : WasServed (opened accounts) calls) (for : AreFor calls xs)
    (put : List (Option Job)) (taken : List Reply) (count : requests_put put ≡ answers_got taken) (due : AreDue put taken calls) where
  served_answers : (course_of accounts h.one).esme.wrong_binds ≢ 0 → HasCentresAnswers xs (answers_in (parts_all (started accounts) (calls_of h.one)))
  served_answers some =
      let one = h.one in
      let other = h.other in
      let t = turned_all (begun accounts) (calls_of one) in
      let all = along_all accounts one (begun accounts) [] 0 [] h.last (start_along accounts) h.run
      put taken (none_awaited (requests_put put) (answers_got taken) count) (due_first put taken one other (subst (λ (l : List Call). AreDue put taken l) h.parts due)) some in
      let answers_so : t.progress.answers ≡ answers_in (parts_all (started accounts) (calls_of one)) =
      ap (λ (c : EsmeProgress). c.answers) (progress_of (calls_of one) (begun accounts)) ∙ (adds_all (calls_of one) (started accounts)).answers in
      let asked : map asked_in xs ≡ requests_among (jobs_among (jobs_put one)) ++ requests_among (jobs_among (jobs_put other)) =
      for.requests ∙ (ap (λ (l : List Call). requests_among (jobs_among (jobs_put l))) h.parts ∙ (ap (λ (l : List (Option Job)). requests_among (jobs_among l)) (jobs_put_join one other)
      ∙ (ap requests_among (jobs_join (jobs_put one) (jobs_put other)) ∙ requests_join (jobs_among (jobs_put one)) (jobs_among (jobs_put other))))) in
      let heard_so : map answered_in xs ≡ answers_among (replies_taken one) ++ (answers_among (replies_taken other) ++ for.left) =
      for.answers ∙ (ap (λ (l : List CentreAnswer). l ++ for.left) (ap (λ (l : List Call). answers_among (replies_taken l)) h.parts
      ∙ (ap answers_among (replies_taken_join one other) ∙ answers_join (replies_taken one) (replies_taken other)))
      ∙ append_assoc (answers_among (replies_taken one)) (answers_among (replies_taken other)) for.left) in
      subst (λ (l : List Answered). HasCentresAnswers xs l) answers_so
      (have_answers accounts t (requests_among (jobs_among (jobs_put one))) all.0 (answers_among (replies_taken one)) all.1 xs
      (requests_among (jobs_among (jobs_put other))) (answers_among (replies_taken other) ++ for.left) asked heard_so)

  read_answers : ReadsAnswers accounts calls xs
  read_answers =
      (h.one, h.other, h.parts, h.none, λ some. (reads accounts h.one h.last (loop_course accounts h.one h.last h.run) some, served_answers some))

-- a connection that was served, and then left its seat
pub reads_answers : (accounts : List Account) (s t u : Standing EsmeView) → s.view ≡ opened accounts → s.phase ≡ Serves
    → requests_put (put_at s.seat) ≡ answers_got (taken_at s.seat) → (served : Did EsmeDoes s t) (left : Did EsmeDoes t u)
    → (xs : List Exchange) → AreFor (served.calls ++ left.calls) xs → ReadsAnswers accounts (served.calls ++ left.calls) xs
reads_answers accounts s t u v p count served left xs for =
    let whole = runs_both s.view t.view u.view s.phase t.phase u.phase served.calls left.calls served.runs left.runs in
    let due = due_join (put_at s.seat) (taken_at s.seat) served.calls left.calls served.due_so (due_at _ _ _ _ left.calls served.put_so served.taken_so left.due_so) in
    read_answers accounts (served.calls ++ left.calls) xs
    (was_served (served.calls ++ left.calls) (opened accounts) u.view u.phase
    (subst (λ (e : EsmeView). Runs EsmeDoes e Serves (served.calls ++ left.calls) u.view u.phase) v
    (subst (λ (q : Phase). Runs EsmeDoes s.view q (served.calls ++ left.calls) u.view u.phase) p whole))) for
    (put_at s.seat) (taken_at s.seat) count due
