-- Each request has the answer of its turn.
use Rattle.std.proofs.Common.{◌≡◌, ◌≢◌, ◌&&◌, ℕ, ◌+◌, ◌-◌, ◌<◌, suc, arith, Bool, true, false, cond, leb, ltb, List, [], ◌∷◌, ◌++◌, length, length-append, drop, map, Option, Some, None, refl, sym, ap, subst, ◌∙◌, append_assoc, append-nil}
use Rattle.std.proofs.lemmas.Bool.{lt-ltb}
use Rattle.std.proofs.lemmas.List.{append_cancel_left, map-append}
use Rattle.std.specs.List.{AllByRecursion}
use Rattle.std.specs.Prelude.{slice_get, slice_set}
use Rattle.sms_base.proofs.Lists.{all_append}
use Rattle.smpp_pdu.specs.declared.header.Header.{Header}
use Rattle.smpp_pdu.specs.declared.status.CommandStatus.TheVariants.{ESME_RTHROTTLED}
use Rattle.smpp_session.specs.declared.account.Account.{Account}
use Rattle.smpp_session.specs.declared.action.Action.{Action}
use Rattle.smpp_session.specs.declared.action.Action.TheVariants.{Send, Bound, Submit, Query, Cancel, DeliverAnswered, BindRefused, Unbound}
use Rattle.smpp_session.specs.declared.answer.Request.{Request}
use Rattle.smpp_session.specs.declared.answer.Request.TheVariants.{Submit as SubmitRequest, Query as QueryRequest, Cancel as CancelRequest}
use Rattle.smpp_pdu.specs.Writing.{written}
use Rattle.smpp_session.specs.declared.calling.Call.TheVariants.{Deliver}
use Rattle.smpp_session.specs.declared.fault.DeliverFault.{DeliverFault}
use Rattle.smpp_session.specs.Calls.{called}
use Rattle.smpp_session.specs.Sessions.{after_unbind, deliver_pdu, delivery_fault, fed, for_version, number_to_send, unbinding}
use Rattle.sms_centre_spec.specs.declared.answer.CentreAnswer.{CentreAnswer}
use Rattle.sms_centre_spec.specs.declared.answer.CentreAnswer.TheVariants.{Refused}
use Rattle.sms_centre_spec.specs.declared.jobs.job.Job.{Job}
use Rattle.sms_centre_spec.specs.declared.jobs.job.Job.TheVariants.{Bound as BoundJob, Unbound as UnboundJob, Submit as SubmitJob, Query as QueryJob, Cancel as CancelJob, DeliverAnswered as DeliverAnsweredJob, LinkUp, LinkDown, Frame as FrameJob}
use Rattle.sms_centre_spec.specs.declared.jobs.reply.Reply.TheVariants.{Answer, Receipt, Frame, Taken}
use Rattle.sms_centre_spec.specs.jobs.Requests.{is_request}
use Rattle.sms_receipt.specs.declared.final_message.Final.{Final}
use Rattle.sms_receipt.specs.Receipts.{receipt_of}
use Rattle.smsc_loop.specs.declared.note.Note.{Note}
use Rattle.smsc_endpoint.specs.declared.pending.PendingRequest.{PendingRequest}
use Rattle.smsc_endpoint.specs.EsmeView.{EsmeView}
use Rattle.smsc_endpoint.specs.EsmeCalls.{account_of, counting_received, first_note, handing, header_in, heard, is_sendable, receipt_by, refused_receipt, request_back, responding, taken, with_session}
use Rattle.smsc_endpoint.specs.EsmeRuns.{Answered, EsmeCall, EsmeProgress, IsEsmeProgress}
use Rattle.smsc_endpoint.specs.EsmeRuns.{account_behind, after_delivered, answered_among, asked_with, called_all, called_once, jobs_from, jobs_of, of_session, pending_with, put_back_by, put_by}
use Rattle.smsc_endpoint.specs.EsmeRuns.{request_of, requests_from, requests_of, taken_back, throttled_among, with_esme}
use Rattle.smsc_endpoint.specs.EsmeRuns.{At, TellFull, Take, Hear, Say, WasSent, Leave, Put, PutBack, Tell}
use Rattle.smsc_endpoint.specs.EsmeTurns.{AreInTurn, EsmeTurns, HasTurns, IsInTurn, IsThrottledAnswer}
use Rattle.smsc_endpoint.specs.EsmeTurns.{answers_heard, begun, if_request, turned, turned_all, was_back}
use Rattle.smsc_endpoint.specs.Outbox.{OutboxView, next_among, requests_among, is_request_first, with_next}
use Rattle.smsc_endpoint.specs.PendingRequests.{is_throttled_first, throttled, throttled_at, throttled_before, with_throttled}
use Rattle.smsc_endpoint.proofs.EsmeActions.{AreActed, acted_are, actions_of, taken_is}
use Rattle.smsc_endpoint.proofs.EsmeRuns.{all_zero, first_answered, heard_if, next_throttled, one_call}
use Rattle.smsc_endpoint.proofs.Requests.{counted_in}

abbrev Fresh : List PendingRequest → Type 0
Fresh requests = AllByRecursion (λ request. was_back request ≡ false) requests

-- ---- the requests at the front that were handed back

pub record IsSplit (xs ys : List PendingRequest) : Type 0 where
  pub kept : List PendingRequest
  pub parts : xs ≡ map request_of (throttled_among (xs ++ ys)) ++ kept
  pub first : is_throttled_first (kept ++ ys) ≡ false

fresh_first : (ys : List PendingRequest) → Fresh ys → is_throttled_first ys ≡ false
fresh_first [] h = refl
fresh_first (y ∷ ys) h = h.0

none_among : (ys : List PendingRequest) → Fresh ys → throttled_among ys ≡ []
none_among [] h = refl
none_among (y ∷ ys) h = ap (λ (b : Bool). cond b ((y, Refused ESME_RTHROTTLED) ∷ throttled_among ys) []) h.0

split_if : (b : Bool) (x : PendingRequest) (xs ys : List PendingRequest) → was_back x ≡ b → IsSplit xs ys → (kept : List PendingRequest)
    × (x ∷ xs ≡ map request_of (cond b ((x, Refused ESME_RTHROTTLED) ∷ throttled_among (xs ++ ys)) []) ++ kept)
    × (is_throttled_first (kept ++ ys) ≡ false)
split_if true x xs ys e s = (s.kept, ap (λ (rs : List PendingRequest). x ∷ rs) s.parts, s.first)
split_if false x xs ys e s = (x ∷ xs, refl, e)

split_front : (xs ys : List PendingRequest) → Fresh ys → IsSplit xs ys
split_front [] ys h =
    record { kept = []; parts = ap (λ (ones : List Answered). map request_of ones ++ []) (sym (none_among ys h)); first = fresh_first ys h }
split_front (x ∷ xs) ys h =
    let s = split_if (was_back x) x xs ys refl (split_front xs ys h) in record { kept = s.0; parts = s.1; first = s.2 }

-- what is left behind them
left_behind : (xs ys after : List PendingRequest) (s : IsSplit xs ys) → xs ++ ys ≡ map request_of (throttled_among (xs ++ ys)) ++ after → after ≡ s.kept ++ ys
left_behind xs ys after s e =
    let front = map request_of (throttled_among (xs ++ ys)) in
    sym (append_cancel_left front (s.kept ++ ys) after (sym (append_assoc front s.kept ys) ∙ (ap (λ (rs : List PendingRequest). rs ++ ys) (sym s.parts) ∙ e)))

heard_by_test : (b : Bool) (answer : CentreAnswer) (xs ys zs : List CentreAnswer) → zs ≡ xs ++ ys → cond b zs (answer ∷ zs) ≡ cond b xs (answer ∷ xs) ++ ys
heard_by_test true answer xs ys zs e = e
heard_by_test false answer xs ys zs e = ap (λ (cs : List CentreAnswer). answer ∷ cs) e

heard_append : (xs ys : List Answered) → answers_heard (xs ++ ys) ≡ answers_heard xs ++ answers_heard ys
heard_append [] ys = refl
heard_append (x ∷ xs) ys = heard_by_test (was_back x.0) x.1 (answers_heard xs) (answers_heard ys) (answers_heard (xs ++ ys)) (heard_append xs ys)

none_by : (b : Bool) (x : PendingRequest) (others : List Answered) → was_back x ≡ b → answers_heard others ≡ []
    → answers_heard (cond b ((x, Refused ESME_RTHROTTLED) ∷ others) []) ≡ []
none_by true x others e none = ap (λ (b : Bool). cond b (answers_heard others) (Refused ESME_RTHROTTLED ∷ answers_heard others)) e ∙ none
none_by false x others e none = refl

none_heard : (xs : List PendingRequest) → answers_heard (throttled_among xs) ≡ []
none_heard [] = refl
none_heard (x ∷ xs) = none_by (was_back x) x (throttled_among xs) refl (none_heard xs)

throttled_by : (b : Bool) (x : PendingRequest) (others : List Answered) → AllByRecursion IsThrottledAnswer others
    → AllByRecursion IsThrottledAnswer (cond b ((x, Refused ESME_RTHROTTLED) ∷ others) [])
throttled_by true x others h = ((λ e. refl), h)
throttled_by false x others h = tt

all_throttled : (xs : List PendingRequest) → AllByRecursion IsThrottledAnswer (throttled_among xs)
all_throttled [] = tt
all_throttled (x ∷ xs) = throttled_by (was_back x) x (throttled_among xs) (all_throttled xs)

-- ---- how many requests there are

counted_add : (is : Bool) (n m : ℕ) → counted_in is (n + m) ≡ counted_in is n + m
counted_add true n m = omega arith
counted_add false n m = refl

count_append : (xs ys : List Job) → requests_among (xs ++ ys) ≡ requests_among xs + requests_among ys
count_append [] ys = omega arith
count_append (x ∷ xs) ys = ap (counted_in (is_request x)) (count_append xs ys) ∙ counted_add (is_request x) (requests_among xs) (requests_among ys)

count_session : (jobs : List Job) → requests_among (of_session jobs) ≡ requests_among jobs
count_session [] = refl
count_session (BoundJob account receives ∷ jobs) = count_session jobs
count_session (UnboundJob ∷ jobs) = count_session jobs
count_session (SubmitJob account pdu ∷ jobs) = ap (λ (n : ℕ). suc n) (count_session jobs)
count_session (QueryJob account pdu ∷ jobs) = ap (λ (n : ℕ). suc n) (count_session jobs)
count_session (CancelJob account pdu ∷ jobs) = ap (λ (n : ℕ). suc n) (count_session jobs)
count_session (DeliverAnsweredJob id is_accepted ∷ jobs) = count_session jobs
count_session (LinkUp handset ∷ jobs) = count_session jobs
count_session (LinkDown ∷ jobs) = count_session jobs
count_session (FrameJob octets ∷ jobs) = count_session jobs

count_of : (account : Option ℕ) (action : Action) → requests_among (jobs_of account action) ≡ length (requests_of action)
count_of account (Send octets) = refl
count_of account (Bound place kind) = refl
count_of account (Submit pdu priority) = with_header (header_in pdu) where
  with_header : (header : Option Header) → requests_among (asked_with header (SubmitJob (account_of account) pdu)) ≡ length (pending_with header SubmitRequest)
  with_header None = refl
  with_header (Some header) = refl
count_of account (Query pdu) = with_header (header_in pdu) where
  with_header : (header : Option Header) → requests_among (asked_with header (QueryJob (account_of account) pdu)) ≡ length (pending_with header QueryRequest)
  with_header None = refl
  with_header (Some header) = refl
count_of account (Cancel pdu) = with_header (header_in pdu) where
  with_header : (header : Option Header) → requests_among (asked_with header (CancelJob (account_of account) pdu)) ≡ length (pending_with header CancelRequest)
  with_header None = refl
  with_header (Some header) = refl
count_of account (DeliverAnswered number is_accepted) = refl
count_of account (BindRefused status name) = refl
count_of account Unbound = refl

count_from : (account : Option ℕ) (actions : List Action) → requests_among (jobs_from account actions) ≡ length (requests_from actions)
count_from account [] = refl
count_from account (action ∷ actions) =
    count_append (jobs_of account action) (jobs_from (account_behind account action) actions)
    ∙ (ap (λ (n : ℕ). n + requests_among (jobs_from (account_behind account action) actions)) (count_of account action)
    ∙ (ap (λ (n : ℕ). length (requests_of action) + n) (count_from (account_behind account action) actions)
    ∙ sym (length-append (requests_of action) (requests_from actions))))

fresh_with : (header : Option Header) (request : Request) → Fresh (pending_with header request)
fresh_with None request = tt
fresh_with (Some header) request = (refl, tt)

fresh_of : (action : Action) → Fresh (requests_of action)
fresh_of (Send octets) = tt
fresh_of (Bound place kind) = tt
fresh_of (Submit pdu priority) = fresh_with (header_in pdu) SubmitRequest
fresh_of (Query pdu) = fresh_with (header_in pdu) QueryRequest
fresh_of (Cancel pdu) = fresh_with (header_in pdu) CancelRequest
fresh_of (DeliverAnswered number is_accepted) = tt
fresh_of (BindRefused status name) = tt
fresh_of Unbound = tt

fresh_from : (actions : List Action) → Fresh (requests_from actions)
fresh_from [] = tt
fresh_from (action ∷ actions) = all_append (λ request. was_back request ≡ false) (requests_of action) (requests_from actions) (fresh_of action) (fresh_from actions)

first_append : (xs ys : List PendingRequest) → is_throttled_first xs ≡ false → Fresh ys → is_throttled_first (xs ++ ys) ≡ false
first_append [] ys e h = fresh_first ys h
first_append (x ∷ xs) ys e h = e

-- ---- the request that was handed out last is marked

set_behind : (xs ys : List PendingRequest) (y z : PendingRequest) → slice_set (xs ++ y ∷ ys) (length xs) z ≡ xs ++ z ∷ ys
set_behind [] ys y z = refl
set_behind (x ∷ xs) ys y z = ap (λ (rs : List PendingRequest). x ∷ rs) (set_behind xs ys y z)

get_behind : (xs ys : List PendingRequest) (y : PendingRequest) → slice_get (xs ++ y ∷ ys) (length xs) ≡ Some y
get_behind [] ys y = refl
get_behind (x ∷ xs) ys y = get_behind xs ys y

marked_at : (xs ys : List PendingRequest) (y : PendingRequest) → throttled_at (length xs) (xs ++ y ∷ ys) ≡ xs ++ throttled y ∷ ys
marked_at xs ys y = ap (with_throttled (length xs) (xs ++ y ∷ ys)) (get_behind xs ys y) ∙ set_behind xs ys y (throttled y)

pub marked_before : (xs ys : List PendingRequest) (y : PendingRequest) → throttled_before (length ys) (xs ++ y ∷ ys) ≡ xs ++ throttled y ∷ ys
marked_before xs ys y =
    let all : length (xs ++ y ∷ ys) ≡ length xs + suc (length ys) = length-append xs (y ∷ ys) in
    let less : ltb (length ys) (length (xs ++ y ∷ ys)) ≡ true = lt-ltb _ _ (omega (arith, all)) in
    let place : length (xs ++ y ∷ ys) - 1 - length ys ≡ length xs = omega (arith, all) in
    ap (λ (b : Bool). cond b (throttled_at (length (xs ++ y ∷ ys) - 1 - length ys) (xs ++ y ∷ ys)) (xs ++ y ∷ ys)) less
    ∙ (ap (λ (n : ℕ). throttled_at n (xs ++ y ∷ ys)) place ∙ marked_at xs ys y)

-- ---- marks in order

marks_more : (answers more : List Answered) (kept handed : List PendingRequest) → handed ≡ map request_of more ++ kept
    → map was_back (map request_of (answers ++ more) ++ kept) ≡ map was_back (map request_of answers ++ handed)
marks_more answers more kept handed e =
    ap (map was_back)
    (ap (λ (rs : List PendingRequest). rs ++ kept) (map-append request_of answers more)
    ∙ (append_assoc (map request_of answers) (map request_of more) kept
    ∙ ap (λ (rs : List PendingRequest). map request_of answers ++ rs) (sym e)))

marks_behind : (answers : List Answered) (handed : List PendingRequest) (request : PendingRequest)
    → map was_back (map request_of answers ++ (handed ++ request ∷ [])) ≡ map was_back (map request_of answers ++ handed) ++ was_back request ∷ []
marks_behind answers handed request =
    ap (map was_back) (sym (append_assoc (map request_of answers) handed (request ∷ []))) ∙ map-append was_back (map request_of answers ++ handed) (request ∷ [])

-- what is the same in a course where no request is handed out or answered
same_turns : (t u : EsmeTurns) → HasTurns t → u.progress.esme.waiting ≡ t.progress.esme.waiting → requests_among u.progress.esme.outbox.jobs ≡ requests_among t.progress.esme.outbox.jobs
    → u.progress.answers ≡ t.progress.answers → u.back ≡ t.back → u.heard ≡ t.heard → HasTurns u
same_turns t u h waiting jobs answers back heard = record {
  handed = h.handed;
  queued = h.queued;
  split = waiting ∙ h.split;
  count = h.count ∙ sym jobs;
  fresh = h.fresh;
  first = ap is_throttled_first waiting ∙ h.first;
  marks = ap (λ (ones : List Answered). map was_back (map request_of ones ++ h.handed)) answers ∙ (h.marks ∙ sym back);
  heard = ap answers_heard answers ∙ (h.heard ∙ sym heard);
  throttled = subst (λ (ones : List Answered). AllByRecursion IsThrottledAnswer ones) (sym answers) h.throttled;
}

-- ---- octets that arrived

taken_turns : (octets : List ℕ) (t : EsmeTurns) → HasTurns t → t.progress.esme.outbox.is_closed ≡ false → (taken octets t.progress.esme).wrong_binds ≢ 0 → HasTurns (turned t (Take octets))
taken_turns octets t h is_open some =
    let e = t.progress.esme in
    let f = fed e.session octets in
    let acts = actions_of e f in
    let is = taken_is octets e in
    let before = with_session f.0 (counting_received (length octets) e) in
    let a = subst (AreActed before acts) (sym is) (acted_are acts before is_open (λ z. some (ap (λ (d : EsmeView). d.wrong_binds) is ∙ z))) in
    let d = taken octets e in
    let counts : requests_among d.outbox.jobs ≡ requests_among e.outbox.jobs + length (requests_from acts) =
    sym (count_session d.outbox.jobs)
    ∙ (ap requests_among a.jobs
    ∙ (count_append (of_session e.outbox.jobs) (jobs_from e.account acts)
    ∙ (ap (λ (n : ℕ). n + requests_among (jobs_from e.account acts)) (count_session e.outbox.jobs)
    ∙ ap (λ (n : ℕ). requests_among e.outbox.jobs + n) (count_from e.account acts)))) in record {
      handed = h.handed;
      queued = h.queued ++ requests_from acts;
      split = a.waiting ∙ (ap (λ (rs : List PendingRequest). rs ++ requests_from acts) h.split ∙ append_assoc h.handed h.queued (requests_from acts));
      count = length-append h.queued (requests_from acts) ∙ (ap (λ (n : ℕ). n + length (requests_from acts)) h.count ∙ sym counts);
      fresh = all_append (λ request. was_back request ≡ false) h.queued (requests_from acts) h.fresh (fresh_from acts);
      first = ap is_throttled_first a.waiting ∙ first_append e.waiting (requests_from acts) h.first (fresh_from acts);
      marks = h.marks ∙ sym (append-nil t.back);
      heard = h.heard ∙ sym (append-nil t.heard);
      throttled = h.throttled;
    }

-- ---- an answer

answer_by : (answer : CentreAnswer) (t : EsmeTurns) (handed : List PendingRequest) (h : HasTurns t) → h.handed ≡ handed → t.progress.esme.outbox.is_closed ≡ false
    → requests_among t.progress.esme.outbox.jobs < length t.progress.esme.waiting → HasTurns (turned t (Hear (Answer answer)))
answer_by answer t [] h is is_open some =
    let all : length t.progress.esme.waiting ≡ length h.queued = ap (λ (rs : List PendingRequest). length rs) (h.split ∙ ap (λ (rs : List PendingRequest). rs ++ h.queued) is) in
    absurd (omega (arith, all, h.count, some))
answer_by answer t (request ∷ handed) h is is_open some =
    let e = t.progress.esme in
    let waits : e.waiting ≡ request ∷ (handed ++ h.queued) = h.split ∙ ap (λ (rs : List PendingRequest). rs ++ h.queued) is in
    let more = throttled_among (handed ++ h.queued) in
    let answers : answered_among e.waiting answer ≡ (request, answer) ∷ more = ap (λ (rs : List PendingRequest). answered_among rs answer) waits in
    let a = first_answered e.waiting answer e refl is_open in
    let d = (turned t (Hear (Answer answer))).progress.esme in
    let parts : request ∷ (handed ++ h.queued) ≡ request ∷ (map request_of more ++ d.waiting) =
    sym waits ∙ (a.waiting ∙ ap (λ (ones : List Answered). map request_of ones ++ d.waiting) answers) in
    let s = split_front handed h.queued h.fresh in
    let after : d.waiting ≡ s.kept ++ h.queued =
    left_behind handed h.queued d.waiting s (append_cancel_left (request ∷ []) (handed ++ h.queued) (map request_of more ++ d.waiting) parts) in
    let open_first : was_back request ≡ false = sym (ap is_throttled_first waits) ∙ h.first in
    let kept : request ∷ handed ≡ map request_of ((request, answer) ∷ more) ++ s.kept = ap (λ (rs : List PendingRequest). request ∷ rs) s.parts in
    let one_heard : answers_heard ((request, answer) ∷ more) ≡ answer ∷ [] =
    ap (λ (b : Bool). cond b (answers_heard more) (answer ∷ answers_heard more)) open_first ∙ ap (λ (cs : List CentreAnswer). answer ∷ cs) (none_heard (handed ++ h.queued)) in record {
      handed = s.kept;
      queued = h.queued;
      split = after;
      count = h.count ∙ ap requests_among (sym a.jobs);
      fresh = h.fresh;
      first = ap is_throttled_first after ∙ s.first;
      marks = ap (λ (ones : List Answered). map was_back (map request_of (t.progress.answers ++ ones) ++ s.kept)) answers
          ∙ (marks_more t.progress.answers ((request, answer) ∷ more) s.kept (request ∷ handed) kept
          ∙ (ap (λ (rs : List PendingRequest). map was_back (map request_of t.progress.answers ++ rs)) (sym is) ∙ (h.marks ∙ sym (append-nil t.back))));
      heard = ap (λ (ones : List Answered). answers_heard (t.progress.answers ++ ones)) answers
          ∙ (heard_append t.progress.answers ((request, answer) ∷ more)
          ∙ (ap (λ (cs : List CentreAnswer). cs ++ answers_heard ((request, answer) ∷ more)) h.heard ∙ ap (λ (cs : List CentreAnswer). t.heard ++ cs) one_heard));
      throttled = subst (λ (ones : List Answered). AllByRecursion IsThrottledAnswer (t.progress.answers ++ ones)) (sym answers)
          (all_append IsThrottledAnswer t.progress.answers ((request, answer) ∷ more) h.throttled
          ((λ back. let no : true ≡ false = sym back ∙ open_first in absurd cc), all_throttled (handed ++ h.queued)));
    }

-- ---- a job that is put

queued_first : (queued : List PendingRequest) (n : ℕ) → length queued ≡ suc n → (request : PendingRequest) × ((others : List PendingRequest) × (queued ≡ request ∷ others))
queued_first [] n e = let no : 0 ≡ suc n = e in absurd (omega (arith, no))
queued_first (request ∷ others) n e = (request, (others, refl))

-- the request that waited longest to be put is handed out
put_turns_by : (is : Bool) (t u : EsmeTurns) (job : Job) (jobs : List Job) (h : HasTurns t) → is_request job ≡ is → t.progress.esme.outbox.jobs ≡ job ∷ jobs
    → u.progress.esme.waiting ≡ t.progress.esme.waiting → u.progress.esme.outbox.jobs ≡ jobs → u.progress.answers ≡ t.progress.answers
    → u.back ≡ t.back ++ cond is (false ∷ []) [] → u.heard ≡ t.heard → HasTurns u
put_turns_by true t u job jobs h is e waiting left answers back heard =
    let before : requests_among t.progress.esme.outbox.jobs ≡ suc (requests_among jobs) =
    ap requests_among e ∙ ap (λ (b : Bool). counted_in b (requests_among jobs)) is in
    let q = queued_first h.queued (requests_among jobs) (h.count ∙ before) in
    let fresh : Fresh (q.0 ∷ q.1.0) = subst Fresh q.1.1 h.fresh in
    let parts : h.handed ++ h.queued ≡ (h.handed ++ q.0 ∷ []) ++ q.1.0 =
    ap (λ (rs : List PendingRequest). h.handed ++ rs) q.1.1 ∙ sym (append_assoc h.handed (q.0 ∷ []) q.1.0) in
    let count : length q.1.0 ≡ requests_among jobs = let both = ap (λ (rs : List PendingRequest). length rs) q.1.1 in omega (arith, both, h.count, before) in record {
      handed = h.handed ++ q.0 ∷ [];
      queued = q.1.0;
      split = waiting ∙ (h.split ∙ parts);
      count = count ∙ ap requests_among (sym left);
      fresh = fresh.1;
      first = ap is_throttled_first waiting ∙ h.first;
      marks = ap (λ (ones : List Answered). map was_back (map request_of ones ++ (h.handed ++ q.0 ∷ []))) answers
          ∙ (marks_behind t.progress.answers h.handed q.0
          ∙ (ap (λ (bs : List Bool). bs ++ was_back q.0 ∷ []) h.marks
          ∙ (ap (λ (b : Bool). t.back ++ b ∷ []) fresh.0 ∙ sym back)));
      heard = ap answers_heard answers ∙ (h.heard ∙ sym heard);
      throttled = subst (λ (ones : List Answered). AllByRecursion IsThrottledAnswer ones) (sym answers) h.throttled;
    }
put_turns_by false t u job jobs h is e waiting left answers back heard =
    let before : requests_among t.progress.esme.outbox.jobs ≡ requests_among jobs =
    ap requests_among e ∙ ap (λ (b : Bool). counted_in b (requests_among jobs)) is in
    same_turns t u h waiting (ap requests_among left ∙ sym before) answers (back ∙ append-nil t.back) heard

put_turns : (busy : Bool) (jobs : List Job) (t : EsmeTurns) → t.progress.esme.outbox.jobs ≡ jobs → HasTurns t
    → (let next = cond busy (None, t.progress.esme) (handing (next_among jobs t.progress.esme.outbox) t.progress.esme) in
    HasTurns (record { progress = put_by next t.progress; back = t.back ++ if_request false next.0; heard = t.heard ++ [] }))
put_turns true jobs t e h =
    same_turns t (record { progress = put_by (None, t.progress.esme) t.progress; back = t.back ++ []; heard = t.heard ++ [] }) h refl refl refl (append-nil t.back) (append-nil t.heard)
put_turns false [] t e h =
    same_turns t (record { progress = put_by (handing (next_among [] t.progress.esme.outbox) t.progress.esme) t.progress; back = t.back ++ []; heard = t.heard ++ [] }) h refl refl refl
    (append-nil t.back) (append-nil t.heard)
put_turns false (job ∷ jobs) t e h =
    let next = handing (next_among (job ∷ jobs) t.progress.esme.outbox) t.progress.esme in
    put_turns_by (is_request job) t (record { progress = put_by next t.progress; back = t.back ++ if_request false next.0; heard = t.heard ++ [] }) job jobs h refl e refl refl refl refl (append-nil t.heard)

-- ---- a job that is handed back

back_turns_by : (is : Bool) (t : EsmeTurns) (job : Job) (jobs : List Job) (d : EsmeView) (h : HasTurns t) → is_request job ≡ is → t.progress.esme.outbox.jobs ≡ job ∷ jobs
    → d.waiting ≡ t.progress.esme.waiting → d.outbox.jobs ≡ jobs → d.outbox.is_closed ≡ false
    → HasTurns (record {
      progress = taken_back job d (cond is (false, request_back d) (true, record d { outbox = with_next job d.outbox })) t.progress;
      back = t.back ++ cond is (true ∷ []) [];
      heard = t.heard ++ [];
    })
back_turns_by true t job jobs d h is e waiting left is_open =
    let before : requests_among t.progress.esme.outbox.jobs ≡ suc (requests_among jobs) =
    ap requests_among e ∙ ap (λ (b : Bool). counted_in b (requests_among jobs)) is in
    let q = queued_first h.queued (requests_among jobs) (h.count ∙ before) in
    let fresh : Fresh (q.0 ∷ q.1.0) = subst Fresh q.1.1 h.fresh in
    let count : length q.1.0 ≡ requests_among d.outbox.jobs =
    let both = ap (λ (rs : List PendingRequest). length rs) q.1.1 in
    let same : requests_among d.outbox.jobs ≡ requests_among jobs = ap requests_among left in
    omega (arith, both, h.count, before, same) in
    let marked = throttled_before (requests_among d.outbox.jobs) d.waiting in
    let last = h.handed ++ throttled q.0 ∷ [] in
    let marks : marked ≡ last ++ q.1.0 =
    ap (λ (rs : List PendingRequest). throttled_before (requests_among d.outbox.jobs) rs) (waiting ∙ (h.split ∙ ap (λ (rs : List PendingRequest). h.handed ++ rs) q.1.1))
    ∙ (ap (λ (n : ℕ). throttled_before n (h.handed ++ q.0 ∷ q.1.0)) (sym count)
    ∙ (marked_before h.handed q.1.0 q.0 ∙ sym (append_assoc h.handed (throttled q.0 ∷ []) q.1.0))) in
    let more = throttled_among (last ++ q.1.0) in
    let answers : throttled_among marked ≡ more = ap throttled_among marks in
    let marked_view = record d { waiting = marked; with_keeper = d.with_keeper - 1 } in
    let a = next_throttled marked_view is_open in
    let s = split_front last q.1.0 fresh.1 in
    let after : (request_back d).waiting ≡ s.kept ++ q.1.0 =
    left_behind last q.1.0 (request_back d).waiting s (sym marks ∙ (a.waiting ∙ ap (λ (ones : List Answered). map request_of ones ++ (request_back d).waiting) answers)) in record {
      handed = s.kept;
      queued = q.1.0;
      split = after;
      count = count ∙ ap requests_among (sym a.jobs);
      fresh = fresh.1;
      first = ap is_throttled_first after ∙ s.first;
      marks = ap (λ (ones : List Answered). map was_back (map request_of (t.progress.answers ++ ones) ++ s.kept)) answers
          ∙ (marks_more t.progress.answers more s.kept last s.parts
          ∙ (marks_behind t.progress.answers h.handed (throttled q.0) ∙ ap (λ (bs : List Bool). bs ++ true ∷ []) h.marks));
      heard = ap (λ (ones : List Answered). answers_heard (t.progress.answers ++ ones)) answers
          ∙ (heard_append t.progress.answers more
          ∙ (ap (λ (cs : List CentreAnswer). cs ++ answers_heard more) h.heard ∙ ap (λ (cs : List CentreAnswer). t.heard ++ cs) (none_heard (last ++ q.1.0))));
      throttled = subst (λ (ones : List Answered). AllByRecursion IsThrottledAnswer (t.progress.answers ++ ones)) (sym answers)
          (all_append IsThrottledAnswer t.progress.answers more h.throttled (all_throttled (last ++ q.1.0)));
    }
back_turns_by false t job jobs d h is e waiting left is_open =
    let jobs_same : requests_among (job ∷ d.outbox.jobs) ≡ requests_among t.progress.esme.outbox.jobs =
    ap (λ (js : List Job). requests_among (job ∷ js)) left ∙ ap requests_among (sym e) in
    same_turns t (record { progress = taken_back job d (true, record d { outbox = with_next job d.outbox }) t.progress; back = t.back ++ []; heard = t.heard ++ [] }) h waiting jobs_same refl
    (append-nil t.back) (append-nil t.heard)

back_turns : (busy : Bool) (jobs : List Job) (t : EsmeTurns) → t.progress.esme.outbox.jobs ≡ jobs → t.progress.esme.outbox.is_closed ≡ false → HasTurns t
    → (let next = cond busy (None, t.progress.esme) (handing (next_among jobs t.progress.esme.outbox) t.progress.esme) in
    HasTurns (record { progress = put_back_by next t.progress; back = t.back ++ if_request true next.0; heard = t.heard ++ [] }))
back_turns true jobs t e is_open h =
    same_turns t (record { progress = put_back_by (None, t.progress.esme) t.progress; back = t.back ++ []; heard = t.heard ++ [] }) h refl refl refl (append-nil t.back) (append-nil t.heard)
back_turns false [] t e is_open h =
    same_turns t (record { progress = put_back_by (handing (next_among [] t.progress.esme.outbox) t.progress.esme) t.progress; back = t.back ++ []; heard = t.heard ++ [] }) h refl refl refl
    (append-nil t.back) (append-nil t.heard)
back_turns false (job ∷ jobs) t e is_open h =
    back_turns_by (is_request job) t job jobs (handing (next_among (job ∷ jobs) t.progress.esme.outbox) t.progress.esme).1 h refl e refl refl is_open

-- ---- any calls

plain_turns : (t : EsmeTurns) (call : EsmeCall) → HasTurns t → (called_once t.progress call).esme.waiting ≡ t.progress.esme.waiting
    → requests_among (called_once t.progress call).esme.outbox.jobs ≡ requests_among t.progress.esme.outbox.jobs → (called_once t.progress call).answers ≡ t.progress.answers
    → HasTurns (record { progress = called_once t.progress call; back = t.back ++ []; heard = t.heard ++ [] })
plain_turns t call h waiting jobs answers =
    same_turns t (record { progress = called_once t.progress call; back = t.back ++ []; heard = t.heard ++ [] }) h waiting jobs answers (append-nil t.back) (append-nil t.heard)

refused_count : (jobs : List Job) (id : ℕ) → requests_among (jobs ++ DeliverAnsweredJob id false ∷ []) ≡ requests_among jobs
refused_count jobs id = count_append jobs (DeliverAnsweredJob id false ∷ []) ∙ omega arith

octets_count : (b : Bool) (octets : List ℕ) (w : OutboxView) → (cond b w (record w { octets = w.octets ++ octets })).jobs ≡ w.jobs
octets_count true octets w = refl
octets_count false octets w = refl

receipt_by_count : (fault : Option DeliverFault) (end : Final) (e : EsmeView) → ((receipt_by fault end e).waiting ≡ e.waiting) × (requests_among (receipt_by fault end e).outbox.jobs ≡ requests_among e.outbox.jobs)
receipt_by_count None end e =
    (refl, ap requests_among (octets_count e.outbox.is_closed (written (deliver_pdu (number_to_send e.session.conversation) (for_version e.session.conversation.interface_version (receipt_of end)))) e.outbox))
receipt_by_count (Some fault) end e = (refl, refused_count e.outbox.jobs end.id)

receipt_count : (b : Bool) (end : Final) (e : EsmeView) (fault : Option DeliverFault)
    → ((cond b (receipt_by fault end e) (refused_receipt end.id e)).waiting ≡ e.waiting) × (requests_among (cond b (receipt_by fault end e) (refused_receipt end.id e)).outbox.jobs ≡ requests_among e.outbox.jobs)
receipt_count true end e fault = receipt_by_count fault end e
receipt_count false end e fault = (refl, refused_count e.outbox.jobs end.id)

answers_if : (b : Bool) (c d : EsmeProgress) (answers : List Answered) → c.answers ≡ answers → d.answers ≡ answers → (cond b c d).answers ≡ answers
answers_if true c d answers p q = p
answers_if false c d answers p q = q

receipt_turns : (end : Final) (t : EsmeTurns) → HasTurns t → HasTurns (turned t (Hear (Receipt end)))
receipt_turns end t h =
    let e = t.progress.esme in
    let one = after_delivered end (called e.session (Deliver (receipt_of end))) t.progress in
    let other = with_esme (heard (Receipt end) e) t.progress in
    let is = heard_if (is_sendable end) one other (heard (Receipt end) e) refl refl in
    let count = receipt_count (is_sendable end) end e (delivery_fault e.session.conversation) in
    plain_turns t (Hear (Receipt end)) h
    (ap (λ (d : EsmeView). d.waiting) is ∙ count.0)
    (ap (λ (d : EsmeView). requests_among d.outbox.jobs) is ∙ count.1)
    (answers_if (is_sendable end) one other t.progress.answers refl refl)

asked_count : (octets : Option (List ℕ)) (e : EsmeView) → ((responding octets e).waiting ≡ e.waiting) × (requests_among (responding octets e).outbox.jobs ≡ requests_among e.outbox.jobs)
asked_count None e = (refl, refl)
asked_count (Some octets) e = (refl, ap requests_among (octets_count e.outbox.is_closed octets e.outbox))

sent_count : (b : Bool) (count : ℕ) (w : OutboxView) → (cond b (record w { octets = drop count w.octets }) w).jobs ≡ w.jobs
sent_count true count w = refl
sent_count false count w = refl

told_same : (notes : List Note) (e : EsmeView) → ((first_note notes e).1.waiting ≡ e.waiting) × ((first_note notes e).1.outbox.jobs ≡ e.outbox.jobs)
told_same [] e = (refl, refl)
told_same (note ∷ notes) e = (refl, refl)

one_turn : (accounts : List Account) (call : EsmeCall) (t : EsmeTurns) → HasTurns t → IsEsmeProgress accounts t.progress → IsInTurn t call
    → (called_once t.progress call).esme.wrong_binds ≢ 0 → HasTurns (turned t call)
one_turn accounts (At now) t h c in_turn some = plain_turns t (At now) h refl refl refl
one_turn accounts (TellFull full) t h c in_turn some = plain_turns t (TellFull full) h refl refl refl
one_turn accounts (Take octets) t h c in_turn some = taken_turns octets t h c.is_open some
one_turn accounts (Hear (Answer answer)) t h c in_turn some = answer_by answer t h.handed h refl c.is_open in_turn
one_turn accounts (Hear (Receipt end)) t h c in_turn some = receipt_turns end t h
one_turn accounts (Hear (Frame octets)) t h c in_turn some = plain_turns t (Hear (Frame octets)) h refl refl refl
one_turn accounts (Hear Taken) t h c in_turn some = plain_turns t (Hear Taken) h refl refl refl
one_turn accounts (Say octets) t h c in_turn some =
    plain_turns t (Say octets) h refl (ap requests_among (octets_count t.progress.esme.outbox.is_closed octets t.progress.esme.outbox)) refl
one_turn accounts (WasSent count) t h c in_turn some =
    plain_turns t (WasSent count) h refl (ap requests_among (sent_count (leb count (length t.progress.esme.outbox.octets)) count t.progress.esme.outbox)) refl
one_turn accounts Leave t h c in_turn some =
    let e = t.progress.esme in
    let same = asked_count (unbinding e.session.conversation.state) (with_session (after_unbind e.session) e) in
    plain_turns t Leave h same.0 same.1 refl
one_turn accounts Put t h c in_turn some =
    put_turns (is_request_first t.progress.esme.outbox.jobs && leb 8 t.progress.esme.with_keeper) t.progress.esme.outbox.jobs t refl h
one_turn accounts PutBack t h c in_turn some =
    back_turns (is_request_first t.progress.esme.outbox.jobs && leb 8 t.progress.esme.with_keeper) t.progress.esme.outbox.jobs t refl c.is_open h
one_turn accounts Tell t h c in_turn some =
    let same = told_same t.progress.esme.notes t.progress.esme in
    plain_turns t Tell h same.0 (ap requests_among same.1) refl

pub progress_of : (calls : List EsmeCall) (t : EsmeTurns) → (turned_all t calls).progress ≡ called_all t.progress calls
progress_of [] t = refl
progress_of (call ∷ calls) t = progress_of calls (turned t call)

pub turns_hold : (accounts : List Account) (calls : List EsmeCall) (t : EsmeTurns) → HasTurns t → IsEsmeProgress accounts t.progress → AreInTurn t calls
    → (turned_all t calls).progress.esme.wrong_binds ≢ 0 → HasTurns (turned_all t calls)
turns_hold accounts [] t h c in_turn some = h
turns_hold accounts (call ∷ calls) t h c in_turn some =
    let next_some : (called_once t.progress call).esme.wrong_binds ≢ 0 =
    λ z. some (ap (λ (d : EsmeProgress). d.esme.wrong_binds) (progress_of calls (turned t call)) ∙ all_zero calls (called_once t.progress call) z) in
    turns_hold accounts calls (turned t call) (one_turn accounts call t h c in_turn.0 next_some) (one_call accounts call t.progress c next_some) in_turn.1 some

pub begins : (accounts : List Account) → HasTurns (begun accounts)
begins accounts = record { handed = []; queued = []; split = refl; count = refl; fresh = tt; first = refl; marks = refl; heard = refl; throttled = tt }
