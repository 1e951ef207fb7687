-- Each receipt that is written was taken from the seat.
use Rattle.std.proofs.Common.{◌≡◌, ◌⊎◌, inl, inr, ⊎_elim, ℕ, Bool, true, false, List, [], ◌∷◌, ◌++◌, Option, Some, None, refl, sym, ap, subst, ◌∙◌, append_assoc, append-nil}
use Rattle.sms_base.proofs.Lists.{among_back, among_front, among_parts}
use Rattle.sms_base.specs.Among.{Among}
use Rattle.smpp_session.specs.Sessions.{SessionView, after_answered}
use Rattle.sms_centre_spec.specs.declared.jobs.job.Job.{Job}
use Rattle.sms_centre_spec.specs.declared.jobs.reply.Reply.{Reply}
use Rattle.sms_centre_spec.specs.declared.jobs.reply.Reply.TheVariants.{Answer, Receipt, Frame, Taken}
use Rattle.sms_receipt.specs.declared.final_message.Final.{Final}
use Rattle.smsc_loop.specs.Calls.{Call, Timed, Told, Took, Heard, GaveUp, AskedLink, AskedToLeave, Noted, Sent, Put, PutBack, Left, PutLast, PutOwn, Dropped, Refused, replies_taken}
use Rattle.smsc_endpoint.specs.EsmeCalls.{handed_back, handed_out, is_sendable}
use Rattle.smsc_endpoint.specs.EsmeRuns.{Answered, EsmeCall, EsmeProgress, answered_among, called_all, called_once, throttled_among}
use Rattle.smsc_endpoint.specs.EsmeView.{EsmeView}
use Rattle.smsc_endpoint.specs.LoopCourses.{call_of, calls_of}
use Rattle.smsc_endpoint.specs.Outbox.{requests_among}
use Rattle.smsc_endpoint.specs.PendingRequests.{throttled_before}
use Rattle.smsc_server.specs.WhatIsRead.{Part, OfTable, OfAnswer, OfReceipt, OfLeaving, OfServer, answer_parts, parts_all, parts_once, put_back_parts, receipt_parts, receipts_in, taken_back_parts}

-- ---- lists

pub all_append : (c : EsmeProgress) (one other : List EsmeCall) → parts_all c (one ++ other) ≡ parts_all c one ++ parts_all (called_all c one) other
all_append c [] other = refl
all_append c (call ∷ one) other =
    ap (λ (ps : List Part). parts_once c call ++ ps) (all_append (called_once c call) one other)
    ∙ sym (append_assoc (parts_once c call) (parts_all (called_once c call) one) (parts_all (called_all (called_once c call) one) other))

receipts_append : (xs ys : List Part) → receipts_in (xs ++ ys) ≡ receipts_in xs ++ receipts_in ys
receipts_append [] ys = refl
receipts_append (OfTable session octets ∷ xs) ys = receipts_append xs ys
receipts_append (OfAnswer session answered ∷ xs) ys = receipts_append xs ys
receipts_append (OfReceipt session end ∷ xs) ys = ap (λ (l : List Final). end ∷ l) (receipts_append xs ys)
receipts_append (OfLeaving session ∷ xs) ys = receipts_append xs ys
receipts_append (OfServer octets ∷ xs) ys = receipts_append xs ys

-- ---- parts without a receipt

answers_none : (session : SessionView) (answers : List Answered) → receipts_in (answer_parts session answers) ≡ []
answers_none session [] = refl
answers_none session (answered ∷ others) = answers_none (after_answered answered.0.sequence_number session) others

back_none : (again : Bool) (before : EsmeView) (session : SessionView) → receipts_in (taken_back_parts again before session) ≡ []
back_none true before session = refl
back_none false before session = answers_none session (throttled_among (throttled_before (requests_among before.outbox.jobs) before.waiting))

put_back_none : (q : Option Job × EsmeView) (session : SessionView) → receipts_in (put_back_parts q session) ≡ []
put_back_none (None, e) session = refl
put_back_none (Some job, e) session = back_none (handed_back job e).0 e session

none_among : (end : Final) (parts : List Part) → receipts_in parts ≡ [] → Among end (receipts_in (parts ++ [])) → ⊥
none_among end parts e there =
    subst (λ (l : List Final). Among end l) (ap receipts_in (append-nil parts) ∙ e) there

-- ---- one call

one_receipt : (b : Bool) (session : SessionView) (own end : Final) → Among end (receipts_in (receipt_parts b session own ++ [])) → Receipt end ≡ Receipt own
one_receipt true session own end (inl e) = ap (λ (f : Final). Receipt f) e
one_receipt true session own end (inr there) = absurd there
one_receipt false session own end there = absurd there

call_receipts : (call : Call) (c : EsmeProgress) (end : Final) → Among end (receipts_in (parts_all c (call_of call))) → Among (Receipt end) (replies_taken (call ∷ []))
call_receipts (Timed now went) c end there = absurd there
call_receipts (Told full) c end there = absurd there
call_receipts (Took octets went) c end there = absurd there
call_receipts (Heard (Answer answer) went) c end there =
    absurd (none_among end (answer_parts c.esme.session (answered_among c.esme.waiting answer)) (answers_none c.esme.session (answered_among c.esme.waiting answer)) there)
call_receipts (Heard (Receipt own) went) c end there = inl (one_receipt (is_sendable own) c.esme.session own end there)
call_receipts (Heard (Frame octets) went) c end there = absurd there
call_receipts (Heard Taken went) c end there = absurd there
call_receipts (GaveUp went) c end there = absurd there
call_receipts (AskedLink went) c end there = absurd there
call_receipts (AskedToLeave asked went) c end there = absurd there
call_receipts (Noted said) c end there = absurd there
call_receipts (Sent octets) c end there = absurd there
call_receipts (Put job) c end there = absurd there
call_receipts (PutBack job again went) c end there =
    absurd (none_among end (put_back_parts (handed_out c.esme) c.esme.session) (put_back_none (handed_out c.esme) c.esme.session) there)
call_receipts (Left last) c end there = absurd there
call_receipts (PutLast job) c end there = absurd there
call_receipts (PutOwn job) c end there = absurd there
call_receipts (Dropped reply) c end there = absurd there
call_receipts (Refused reply) c end there = absurd there

-- ---- calls one after the other

taken_first : (call : Call) (calls : List Call) → replies_taken (call ∷ calls) ≡ replies_taken (call ∷ []) ++ replies_taken calls
taken_first (Heard reply went) calls = refl
taken_first (Dropped reply) calls = refl
taken_first (Refused reply) calls = refl
taken_first call calls = refl

pub written_receipts : (calls : List Call) (c : EsmeProgress) (end : Final) → Among end (receipts_in (parts_all c (calls_of calls))) → Among (Receipt end) (replies_taken calls)
written_receipts [] c end there = absurd there
written_receipts (call ∷ calls) c end there =
    let first = parts_all c (call_of call) in
    let rest = parts_all (called_all c (call_of call)) (calls_of calls) in
    let whole : receipts_in (parts_all c (call_of call ++ calls_of calls)) ≡ receipts_in first ++ receipts_in rest =
    ap receipts_in (all_append c (call_of call) (calls_of calls)) ∙ receipts_append first rest in
    subst (λ (l : List Reply). Among (Receipt end) l) (sym (taken_first call calls))
    (⊎_elim
    (λ (h : Among end (receipts_in first)). among_front (Receipt end) (replies_taken (call ∷ [])) (replies_taken calls) (call_receipts call c end h))
    (λ (h : Among end (receipts_in rest)). among_back (Receipt end) (replies_taken (call ∷ [])) (replies_taken calls) (written_receipts calls (called_all c (call_of call)) end h))
    (among_parts end (receipts_in first) (receipts_in rest) (subst (λ (l : List Final). Among end l) whole there)))
