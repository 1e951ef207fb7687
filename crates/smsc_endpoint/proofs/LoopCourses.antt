-- What the loop does with the session of an application is a course of the session's calls.
use Rattle.std.proofs.Common.{◌≡◌, ◌⊎◌, inl, inr, ℕ, zero, suc, ◌≤◌, Bool, true, false, cond, leb, le-leb, min, arith, List, [], ◌∷◌, ◌++◌, length, length-take, map, take, Option, Some, None, refl, sym, ap, subst, ◌∙◌, append_assoc, append-nil}
use Rattle.smpp_session.specs.declared.account.Account.{Account}
use Rattle.smpp_session.specs.declared.action.Action.{Action}
use Rattle.smpp_session.specs.declared.calling.Call.{Call as SessionCall}
use Rattle.smpp_session.specs.declared.calling.Call.TheVariants.{Full as FullCall, Feed, Answer as AnswerCall, Deliver, Unbind as UnbindCall, Close}
use Rattle.smpp_session.specs.Calls.{called}
use Rattle.smpp_session.specs.Sessions.{SessionView}
use Rattle.sms_centre_spec.specs.declared.jobs.job.Job.{Job}
use Rattle.sms_centre_spec.specs.declared.jobs.reply.Reply.TheVariants.{Answer, Receipt, Frame, Taken}
use Rattle.sms_receipt.specs.declared.final_message.Final.{Final}
use Rattle.sms_receipt.specs.Receipts.{receipt_of}
use Rattle.smsc_loop.specs.Calls.{Call, Timed, Told, Took, Heard, GaveUp, AskedLink, AskedToLeave, Noted, Sent, Put, PutBack, Left, PutLast, PutOwn, Dropped, Refused}
use Rattle.smsc_loop.specs.Calls.{octets_sent, octets_taken}
use Rattle.smsc_loop.specs.declared.note.Note.{Note}
use Rattle.smsc_loop.specs.Courses.{LeadsTo, Runs}
use Rattle.smsc_loop.specs.Phases.{Phase, Serves, Fails, Leaves, Ends, Asks, Moves, behind}
use Rattle.smsc_endpoint.specs.EsmeCalls.{heard, is_sendable, octets_where}
use Rattle.smsc_endpoint.specs.EsmeDoes.{EsmeDoes}
use Rattle.smsc_endpoint.specs.EsmeRuns.{Answered, EsmeCall, EsmeProgress, after_delivered, answer_call, answered_among, called_all, called_once, put_back_by, put_by, started, taken_back, throttled_among, with_esme, with_left}
use Rattle.smsc_endpoint.specs.EsmeRuns.{At, TellFull, Hear, Leave, Put as HandOut, PutBack as HandOutAndBack, Tell}
use Rattle.smsc_endpoint.specs.EsmeView.{EsmeView, opened}
use Rattle.smsc_endpoint.specs.LoopCourses.{IsCourse, IsCourseOf, call_of, calls_of, octets_fed}
use Rattle.smsc_endpoint.specs.Outbox.{requests_among}
use Rattle.smsc_endpoint.specs.PendingRequests.{throttled_before}
use Rattle.smsc_endpoint.proofs.EsmeRuns.{heard_if}

-- ---- octets that are fed

fed_append : (xs ys : List SessionCall) → octets_fed (xs ++ ys) ≡ octets_fed xs ++ octets_fed ys
fed_append [] ys = refl
fed_append (FullCall full ∷ xs) ys = fed_append xs ys
fed_append (Feed octets ∷ xs) ys = ap (λ (os : List ℕ). octets ++ os) (fed_append xs ys) ∙ sym (append_assoc octets (octets_fed xs) (octets_fed ys))
fed_append (AnswerCall number answer ∷ xs) ys = fed_append xs ys
fed_append (Deliver message ∷ xs) ys = fed_append xs ys
fed_append (UnbindCall ∷ xs) ys = fed_append xs ys
fed_append (Close ∷ xs) ys = fed_append xs ys

answers_feed : (answers : List Answered) → octets_fed (map answer_call answers) ≡ []
answers_feed [] = refl
answers_feed (answer ∷ answers) = answers_feed answers

-- calls that feed nothing
none_fed : (xs ys : List SessionCall) → octets_fed ys ≡ [] → octets_fed (xs ++ ys) ≡ octets_fed xs
none_fed xs ys e = fed_append xs ys ∙ (ap (λ (os : List ℕ). octets_fed xs ++ os) e ∙ append-nil (octets_fed xs))

-- ---- the connection has not ended where it is served at last

behind_goes : (went : Bool) (p : Phase) → (p ≡ Serves → ⊥) → behind went p ≡ Serves → ⊥
behind_goes true p away e = away e
behind_goes false Serves away e = away refl
behind_goes false Fails away e = absurd cc
behind_goes false (Leaves due) away e = absurd cc
behind_goes false Ends away e = absurd cc
behind_goes false Asks away e = absurd cc

pub moves_away : (call : Call) (p o : Phase) → Moves call p o → (p ≡ Serves → ⊥) → o ≡ Serves → ⊥
moves_away (Timed now went) p o m away e = away m.0
moves_away (Told full) p o m away e = away m.0
moves_away (Took octets went) p o m away e = away m.0
moves_away (Heard reply went) p o m away e = behind_goes went p away (sym m.1 ∙ e)
moves_away (GaveUp went) p o m away e = away m.0
moves_away (AskedLink went) p o m away e = away m.0
moves_away (AskedToLeave asked went) p o m away e = away m.0
moves_away (Noted said) p o m away e = away (sym m ∙ e)
moves_away (Sent octets) p o m away e = away m.0
moves_away (Put job) p o m away e = away (sym m.1 ∙ e)
moves_away (PutBack job again went) p o m away e = behind_goes went p away (sym m.1 ∙ e)
moves_away (Left last) p o m away e = let never : Leaves last ≡ Serves = sym m.1 ∙ e in absurd cc
moves_away (PutLast job) p o m away e = let never : Ends ≡ Serves = sym m.1 ∙ e in absurd cc
moves_away (PutOwn job) p o m away e = let never : Asks ≡ Serves = sym m.1 ∙ e in absurd cc
moves_away (Dropped reply) p o m away e = away (sym m.1 ∙ e)
moves_away (Refused reply) p o m away e = behind_goes false p away (sym m.1 ∙ e)

pub stays_away : (calls : List Call) (v : EsmeView) (p : Phase) (w : EsmeView) → Runs EsmeDoes v p calls w Serves → (p ≡ Serves → ⊥) → ⊥
stays_away [] v p w r away = away (sym r.1)
stays_away (call ∷ calls) v p w r away = stays_away calls r.0 r.1 w r.4 (moves_away call p r.1 r.3 away)

pub is_serving : (o : Phase) → (o ≡ Serves) ⊎ (o ≡ Serves → ⊥)
is_serving Serves = inl refl
is_serving Fails = inr (λ (e : Fails ≡ Serves). absurd cc)
is_serving (Leaves due) = inr (λ (e : Leaves due ≡ Serves). absurd cc)
is_serving Ends = inr (λ (e : Ends ≡ Serves). absurd cc)
is_serving Asks = inr (λ (e : Asks ≡ Serves). absurd cc)

pub fails : (o : Phase) → o ≡ Fails → o ≡ Serves → ⊥
fails o p e = let never : Fails ≡ Serves = sym p ∙ e in absurd cc

-- ---- one call

-- a call by which nothing arrives and nothing is written
quiet : (call : Call) (c d : EsmeProgress) (u : EsmeView) → octets_sent (call ∷ []) ≡ [] → octets_taken (call ∷ []) ≡ [] → d.esme ≡ u → d.sent ≡ c.sent
    → octets_fed d.calls ≡ octets_fed c.calls → IsCourse c d (call ∷ []) u
quiet call c d u writes takes esme sent fed = record {
  esme = esme;
  sent = sent ∙ (sym (append-nil c.sent) ∙ ap (λ (os : List ℕ). c.sent ++ os) (sym writes));
  fed = fed ∙ (sym (append-nil (octets_fed c.calls)) ∙ ap (λ (os : List ℕ). octets_fed c.calls ++ os) (sym takes));
}

receipt_rest : (b : Bool) (end : Final) (c : EsmeProgress) (f : SessionView × List Action) (e : EsmeView)
    → ((cond b (after_delivered end f c) (with_esme e c)).sent ≡ c.sent) × (octets_fed (cond b (after_delivered end f c) (with_esme e c)).calls ≡ octets_fed c.calls)
receipt_rest true end c f e = (refl, none_fed c.calls (Deliver (receipt_of end) ∷ []) refl)
receipt_rest false end c f e = (refl, refl)

back_rest : (again : Bool) (job : Job) (d u : EsmeView) (c : EsmeProgress)
    → ((taken_back job d (again, u) c).esme ≡ u) × ((taken_back job d (again, u) c).sent ≡ c.sent) × (octets_fed (taken_back job d (again, u) c).calls ≡ octets_fed c.calls)
back_rest true job d u c = (refl, refl, refl)
back_rest false job d u c =
    let answers = throttled_among (throttled_before (requests_among d.outbox.jobs) d.waiting) in
    (refl, refl, none_fed c.calls (map answer_call answers) (answers_feed answers))

no_part : (b : Bool) → cond b (take {A = ℕ} 0 []) [] ≡ []
no_part true = refl
no_part false = refl

take_none : (n : ℕ) → take {A = ℕ} n [] ≡ []
take_none zero = refl
take_none (suc n) = refl

-- the octets that were written are the first of those that wait
part_is : (held : Option ℕ) (octets os : List ℕ) → octets ≡ take (length octets) (octets_where held os) → cond (leb (length octets) (length os)) (take (length octets) os) [] ≡ octets
part_is None octets os e =
    let same : length octets ≡ min (length octets) (length os) = ap (λ (xs : List ℕ). length xs) e ∙ length-take (length octets) os in
    let fits : length octets ≤ length os = omega (arith, same) in
    ap (λ (b : Bool). cond b (take (length octets) os) []) (le-leb _ _ fits) ∙ sym e
part_is (Some until) octets os e =
    let none : octets ≡ [] = e ∙ take_none (length octets) in
    subst (λ (xs : List ℕ). cond (leb (length xs) (length os)) (take (length xs) os) [] ≡ xs) (sym none) (no_first (leb 0 (length os)) os) where
      no_first : (b : Bool) (xs : List ℕ) → cond b (take 0 xs) [] ≡ []
      no_first true xs = refl
      no_first false xs = refl

one_step : (call : Call) (c : EsmeProgress) (u : EsmeView) → LeadsTo EsmeDoes call c.esme u → (o : Phase) → Moves call Serves o → o ≡ Serves → IsCourse c (called_all c (call_of call)) (call ∷ []) u
one_step (Timed now true) c u l o m e = quiet (Timed now true) c (called_once c (At now)) u refl refl (sym l) refl refl
one_step (Timed now false) c u l o m e = absurd (fails o m.1 e)
one_step (Told full) c u l o m e = quiet (Told full) c (called_once c (TellFull full)) u refl refl (sym l) refl (none_fed c.calls (FullCall full ∷ []) refl)
one_step (Took octets true) c u l o m e = record { esme = sym l; sent = sym (append-nil c.sent); fed = fed_append c.calls (Feed octets ∷ []) }
one_step (Took octets false) c u l o m e = absurd (fails o m.1 e)
one_step (Heard (Answer answer) true) c u l o m e =
    let answers = answered_among c.esme.waiting answer in
    quiet (Heard (Answer answer) true) c (called_once c (Hear (Answer answer))) u refl refl (sym l) refl (none_fed c.calls (map answer_call answers) (answers_feed answers))
one_step (Heard (Receipt end) true) c u l o m e =
    let f = called c.esme.session (Deliver (receipt_of end)) in
    let v = heard (Receipt end) c.esme in
    let rest = receipt_rest (is_sendable end) end c f v in
    quiet (Heard (Receipt end) true) c (called_once c (Hear (Receipt end))) u refl refl (heard_if (is_sendable end) (after_delivered end f c) (with_esme v c) v refl refl ∙ sym l) rest.0 rest.1
one_step (Heard (Frame octets) true) c u l o m e = quiet (Heard (Frame octets) true) c c u refl refl (sym l) refl refl
one_step (Heard Taken true) c u l o m e = quiet (Heard Taken true) c c u refl refl (sym l) refl refl
one_step (Heard reply false) c u l o m e = absurd (fails o m.1 e)
one_step (GaveUp true) c u l o m e = quiet (GaveUp true) c (called_all c (call_of (GaveUp true))) u refl refl (sym l) refl refl
one_step (GaveUp false) c u l o m e = absurd (fails o m.1 e)
one_step (AskedLink true) c u l o m e = quiet (AskedLink true) c (called_all c (call_of (AskedLink true))) u refl refl (sym l) refl refl
one_step (AskedLink false) c u l o m e = absurd (fails o m.1 e)
one_step (AskedToLeave asked true) c u l o m e =
    quiet (AskedToLeave asked true) c (called_once c Leave) u refl refl (sym (ap (λ (q : Bool × EsmeView). q.1) l)) refl (none_fed c.calls (UnbindCall ∷ []) refl)
one_step (AskedToLeave asked false) c u l o m e = absurd (fails o m.1 e)
one_step (Noted said) c u l o m e = quiet (Noted said) c (called_once c Tell) u refl refl (sym (ap (λ (q : Option Note × EsmeView). q.1) l)) refl refl
one_step (Sent octets) c u l o m e = record {
  esme = sym l.1;
  sent = ap (λ (os : List ℕ). c.sent ++ os) (part_is c.esme.held octets c.esme.outbox.octets l.0 ∙ sym (append-nil octets));
  fed = sym (append-nil (octets_fed c.calls));
}
one_step (Put job) c u l o m e =
    let is : called_once c HandOut ≡ with_left job u c = ap (λ (q : Option Job × EsmeView). put_by q c) (sym l) in
    quiet (Put job) c (called_once c HandOut) u refl refl (ap (λ (d : EsmeProgress). d.esme) is) (ap (λ (d : EsmeProgress). d.sent) is) (ap (λ (d : EsmeProgress). octets_fed d.calls) is)
one_step (PutBack job again true) c u l o m e =
    let is : called_once c HandOutAndBack ≡ taken_back job l.0 (again, u) c =
    ap (λ (q : Option Job × EsmeView). put_back_by q c) (sym l.1) ∙ ap (λ (q : Bool × EsmeView). taken_back job l.0 q c) (sym l.2) in
    let rest = back_rest again job l.0 u c in
    quiet (PutBack job again true) c (called_once c HandOutAndBack) u refl refl (ap (λ (d : EsmeProgress). d.esme) is ∙ rest.0) (ap (λ (d : EsmeProgress). d.sent) is ∙ rest.1)
    (ap (λ (d : EsmeProgress). octets_fed d.calls) is ∙ rest.2)
one_step (PutBack job again false) c u l o m e = absurd (fails o m.1 e)
one_step (Left last) c u l o m e = let never : Leaves last ≡ Serves = sym m.1 ∙ e in absurd cc
one_step (PutLast job) c u l o m e = let never : Ends ≡ Serves = sym m.1 ∙ e in absurd cc
one_step (PutOwn job) c u l o m e = let never : Asks ≡ Serves = sym m.1 ∙ e in absurd cc
one_step (Dropped reply) c u l o m e = absurd m.0
one_step (Refused reply) c u l o m e = absurd (fails o m.1 e)

-- ---- calls one after the other

pub all_append : (xs ys : List EsmeCall) (c : EsmeProgress) → called_all c (xs ++ ys) ≡ called_all (called_all c xs) ys
all_append [] ys c = refl
all_append (x ∷ xs) ys c = all_append xs ys (called_once c x)

pub sent_first : (call : Call) (calls : List Call) → octets_sent (call ∷ calls) ≡ octets_sent (call ∷ []) ++ octets_sent calls
sent_first (Sent octets) calls = ap (λ (os : List ℕ). os ++ octets_sent calls) (sym (append-nil octets))
sent_first call calls = refl

pub taken_first : (call : Call) (calls : List Call) → octets_taken (call ∷ calls) ≡ octets_taken (call ∷ []) ++ octets_taken calls
taken_first (Took octets went) calls = ap (λ (os : List ℕ). os ++ octets_taken calls) (sym (append-nil octets))
taken_first call calls = refl

more : (a b c : List ℕ) (first rest all : List ℕ) → b ≡ a ++ first → c ≡ b ++ rest → all ≡ first ++ rest → c ≡ a ++ all
more a b c first rest all one two joins =
    two ∙ (ap (λ (os : List ℕ). os ++ rest) one ∙ (append_assoc a first rest ∙ ap (λ (os : List ℕ). a ++ os) (sym joins)))

then_course : (call : Call) (calls : List Call) (c d : EsmeProgress) (u w : EsmeView) → d ≡ called_all c (call_of call) → IsCourse c d (call ∷ []) u
    → IsCourse d (called_all d (calls_of calls)) calls w → IsCourse c (called_all c (calls_of (call ∷ calls))) (call ∷ calls) w
then_course call calls c d u w is one rest =
    subst (λ (f : EsmeProgress). IsCourse c f (call ∷ calls) w)
    (ap (λ (f : EsmeProgress). called_all f (calls_of calls)) is ∙ sym (all_append (call_of call) (calls_of calls) c)) (record {
      esme = rest.esme;
      sent = more c.sent d.sent (called_all d (calls_of calls)).sent (octets_sent (call ∷ [])) (octets_sent calls) (octets_sent (call ∷ calls)) one.sent rest.sent (sent_first call calls);
      fed = more (octets_fed c.calls) (octets_fed d.calls) (octets_fed (called_all d (calls_of calls)).calls) (octets_taken (call ∷ [])) (octets_taken calls) (octets_taken (call ∷ calls)) one.fed rest.fed (taken_first call calls);
    })

next_course : (call : Call) (calls : List Call) (c : EsmeProgress) (u w : EsmeView) (o : Phase) → LeadsTo EsmeDoes call c.esme u → Moves call Serves o → Runs EsmeDoes u o calls w Serves
    → (o ≡ Serves) ⊎ (o ≡ Serves → ⊥) → ((d : EsmeProgress) → Runs EsmeDoes d.esme Serves calls w Serves → IsCourse d (called_all d (calls_of calls)) calls w)
    → IsCourse c (called_all c (calls_of (call ∷ calls))) (call ∷ calls) w
next_course call calls c u w o l m r (inl e) rest =
    let d = called_all c (call_of call) in
    let one = one_step call c u l o m e in
    then_course call calls c d u w refl one
    (rest d (subst (λ (v : EsmeView). Runs EsmeDoes v Serves calls w Serves) (sym one.esme) (subst (λ (p : Phase). Runs EsmeDoes u p calls w Serves) e r)))
next_course call calls c u w o l m r (inr away) rest = absurd (stays_away calls u o w r away)

course : (calls : List Call) (c : EsmeProgress) (w : EsmeView) → Runs EsmeDoes c.esme Serves calls w Serves → IsCourse c (called_all c (calls_of calls)) calls w
course [] c w r = record { esme = sym r.0; sent = sym (append-nil c.sent); fed = sym (append-nil (octets_fed c.calls)) }
course (call ∷ calls) c w r = next_course call calls c r.0 w r.1 r.2 r.3 r.4 (is_serving r.1) (λ d rest. course calls d w rest)

pub loop_course : (accounts : List Account) (calls : List Call) (e : EsmeView) → Runs EsmeDoes (opened accounts) Serves calls e Serves → IsCourseOf accounts calls e
loop_course accounts calls e r = course calls (started accounts) e r
