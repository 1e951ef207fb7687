-- A link after its end.
use Rattle.std.proofs.Common.{◌≡◌, inl, inr, ℕ, zero, suc, Bool, true, false, cond, eqb, leb, List, [], ◌∷◌, ◌++◌, length, drop, Option, Some, None, refl, sym, ap, ◌∙◌, subst, append_assoc}
use Rattle.std.specs.Prelude.{MatchBool}
use Rattle.sms_link.specs.framing.Framing.{framed}
use Rattle.sms_centre_spec.specs.declared.jobs.job.Job.{Job}
use Rattle.sms_centre_spec.specs.declared.jobs.job.Job.TheVariants.{Bound, Unbound, Submit, Query, Cancel, DeliverAnswered, LinkUp, LinkDown, Frame}
use Rattle.sms_centre_spec.specs.declared.jobs.reply.Reply.{Reply}
use Rattle.sms_centre_spec.specs.declared.jobs.reply.Reply.TheVariants.{Answer, Receipt, Frame as FrameReply, Taken as TakenReply}
use Rattle.sms_centre_spec.specs.jobs.Requests.{is_request}
use Rattle.smsc_endpoint.specs.declared.link_stage.Stage.{Stage}
use Rattle.smsc_endpoint.specs.declared.link_stage.Stage.TheVariants.{Unnamed, Named, Taken, Later, Up}
use Rattle.smsc_loop.specs.declared.note.Note.{Note}
use Rattle.smsc_endpoint.specs.LinkView.{LinkView}
use Rattle.smsc_endpoint.specs.LinkCalls.{HearsMarkAt, Hears, ReadsAt, ReadsOn}
use Rattle.smsc_endpoint.specs.LinkCalls.{at_time, congestion, ended, first_note, handed_back, handing, mark, named_again, next_note, sending, taken_by, unmarked, with_unread}
use Rattle.smsc_endpoint.specs.LinkRuns.{LinkCall, LinkProgress, LinkRun, LinkStep, IsAfterEnd}
use Rattle.smsc_endpoint.specs.LinkRuns.{all_jobs, put_back_by, put_by, taken_back, with_link, without_marks}
use Rattle.smsc_endpoint.specs.LinkRuns.{At, Take, Hear, GiveUp, Send, Put, PutBack, Close, Tell}
use Rattle.smsc_endpoint.specs.Outbox.{OutboxView, next_among, with_octets}
use Rattle.smsc_endpoint.proofs.LinkRuns.{is_frame}

abbrev one_without : Bool → Job → List Job → List Job
one_without is job jobs = cond is jobs (job ∷ jobs)

one_append : (is : Bool) (job : Job) (xs ys : List Job) → one_without is job (xs ++ ys) ≡ one_without is job xs ++ ys
one_append true job xs ys = refl
one_append false job xs ys = refl

marks_append : (xs ys : List Job) → without_marks (xs ++ ys) ≡ without_marks xs ++ without_marks ys
marks_append [] ys = refl
marks_append (x ∷ xs) ys = ap (one_without (is_request x) x) (marks_append xs ys) ∙ one_append (is_request x) x (without_marks xs) (without_marks ys)

-- what holds of a link once it has ended
record IsEnded (before c : LinkProgress) : Type 0 where
  pub over : c.link.is_over ≡ true
  pub nobody : c.link.handset ≡ None
  pub closed : c.link.outbox.is_closed ≡ true
  pub octets : c.link.outbox.octets ≡ []
  pub jobs : without_marks (all_jobs c) ≡ without_marks (all_jobs before)

-- a link that differs in nothing of that
record IsAlike (l m : LinkView) : Type 0 where
  pub over : m.is_over ≡ l.is_over
  pub handset : m.handset ≡ l.handset
  pub outbox : m.outbox ≡ l.outbox

alike : (before c : LinkProgress) (m : LinkView) → IsEnded before c → IsAlike c.link m → IsEnded before (with_link m c)
alike before c m h a = record {
  over = a.over ∙ h.over;
  nobody = a.handset ∙ h.nobody;
  closed = ap (λ (w : OutboxView). w.is_closed) a.outbox ∙ h.closed;
  octets = ap (λ (w : OutboxView). w.octets) a.outbox ∙ h.octets;
  jobs = ap (λ (w : OutboxView). without_marks (c.left ++ w.jobs)) a.outbox ∙ h.jobs;
}

alike_is : (l m : LinkView) → m ≡ l → IsAlike l m
alike_is l m e = record { over = ap (λ (k : LinkView). k.is_over) e; handset = ap (λ (k : LinkView). k.handset) e; outbox = ap (λ (k : LinkView). k.outbox) e }

unnamed_again : (now : ℕ) (stage : Stage) (l : LinkView) → named_again now stage None l ≡ l
unnamed_again now Unnamed l = refl
unnamed_again now Named l = refl
unnamed_again now Taken l = refl
unnamed_again now Later l = refl
unnamed_again now Up l = refl

time_alike : (now : ℕ) (l : LinkView) → l.handset ≡ None → IsAlike l (at_time now l)
time_alike now l nobody =
    let same : at_time now l ≡ record l { time = now } =
    ap (λ (h : Option (List ℕ)). named_again now l.stage h (record l { time = now })) nobody ∙ unnamed_again now l.stage (record l { time = now }) in
    record { over = ap (λ (k : LinkView). k.is_over) same; handset = ap (λ (k : LinkView). k.handset) same; outbox = ap (λ (k : LinkView). k.outbox) same }

unread : (octets : List ℕ) (l m : LinkView) → l.is_over ≡ true → ReadsOn (with_unread octets l) m → m ≡ with_unread octets l
unread octets l m over r =
    subst (λ (b : Bool). MatchBool b (m ≡ with_unread octets l) (ReadsAt l.stage (with_unread octets l) m)) over r

no_mark : (stage : Stage) (l m : LinkView) → HearsMarkAt stage None l m → m ≡ l
no_mark Unnamed l m h = h
no_mark Named l m h = h
no_mark Taken l m h = h
no_mark Later l m h = h
no_mark Up l m h = h

closed_says : (octets : List ℕ) (w : OutboxView) → w.is_closed ≡ true → with_octets octets w ≡ w
closed_says octets w e = rw e refl

sending_alike : (frame : List ℕ) (l : LinkView) → l.outbox.is_closed ≡ true → IsAlike l (sending frame l)
sending_alike frame l e = record { over = refl; handset = refl; outbox = closed_says (framed frame) l.outbox e }

taken_alike : (handset : Option (List ℕ)) (l : LinkView) → IsAlike l (taken_by handset l)
taken_alike None l = record { over = refl; handset = refl; outbox = refl }
taken_alike (Some handset) l = record { over = refl; handset = refl; outbox = refl }

told_alike : (notes : List Note) (l : LinkView) → IsAlike l (first_note notes l).1
told_alike [] l = record { over = refl; handset = refl; outbox = refl }
told_alike (note ∷ notes) l = record { over = refl; handset = refl; outbox = refl }

hears_ended : (reply : Reply) (before c : LinkProgress) (m : LinkView) → IsEnded before c → Hears reply c.link m → IsEnded before (with_link m c)
hears_ended (Answer answer) before c m h r =
    let same : m ≡ unmarked c.link =
    no_mark c.link.stage (unmarked c.link) m (subst (λ (o : Option (List ℕ)). HearsMarkAt c.link.stage o (unmarked c.link) m) h.nobody r) in
    alike before c m h (record { over = ap (λ (k : LinkView). k.is_over) same; handset = ap (λ (k : LinkView). k.handset) same; outbox = ap (λ (k : LinkView). k.outbox) same })
hears_ended (Receipt end) before c m h r = alike before c m h (alike_is c.link m r)
hears_ended (FrameReply frame) before c m h r = elim (is_frame frame) [
  | inl is ↦ subst (λ (k : LinkView). IsEnded before (with_link k c)) (sym (r.0 is)) (alike before c (sending frame c.link) h (sending_alike frame c.link h.closed))
  | inr none ↦ alike before c m h (alike_is c.link m (r.1 none))
]
hears_ended TakenReply before c m h r =
    subst (λ (k : LinkView). IsEnded before (with_link k c)) (sym r) (alike before c (taken_by c.link.handset c.link) h (taken_alike c.link.handset c.link))

mark_left : (left jobs : List Job) → without_marks ((left ++ mark ∷ []) ++ jobs) ≡ without_marks (left ++ jobs)
mark_left left jobs =
    ap without_marks (append_assoc left (mark ∷ []) jobs) ∙ (marks_append left (mark ∷ jobs) ∙ sym (marks_append left jobs))

job_left : (left jobs rest : List Job) (job : Job) → jobs ≡ job ∷ rest → (left ++ job ∷ []) ++ rest ≡ left ++ jobs
job_left left jobs rest job e = append_assoc left (job ∷ []) rest ∙ ap (λ (js : List Job). left ++ js) (sym e)

put_ended : (marked due : Bool) (jobs : List Job) (before c : LinkProgress) → c.link.outbox.jobs ≡ jobs → IsEnded before c
    → IsEnded before (put_by (cond marked (None, c.link) (cond due (Some mark, record c.link { is_marked = true }) (handing (next_among jobs c.link.outbox) c.link))) c)
put_ended true due jobs before c e h = record { over = h.over; nobody = h.nobody; closed = h.closed; octets = h.octets; jobs = h.jobs }
put_ended false true jobs before c e h =
    record { over = h.over; nobody = h.nobody; closed = h.closed; octets = h.octets; jobs = mark_left c.left c.link.outbox.jobs ∙ h.jobs }
put_ended false false [] before c e h = record { over = h.over; nobody = h.nobody; closed = h.closed; octets = h.octets; jobs = h.jobs }
put_ended false false (job ∷ jobs) before c e h = record {
  over = h.over;
  nobody = h.nobody;
  closed = h.closed;
  octets = h.octets;
  jobs = ap without_marks (job_left c.left c.link.outbox.jobs jobs job e) ∙ h.jobs;
}

again : (job : Job) (jobs : List Job) (before c : LinkProgress) (m : LinkView) → c.link.outbox.jobs ≡ job ∷ jobs → m.outbox.jobs ≡ jobs → IsEnded before c
    → without_marks (c.left ++ (job ∷ m.outbox.jobs)) ≡ without_marks (all_jobs before)
again job jobs before c m e left h =
    ap (λ (js : List Job). without_marks (c.left ++ (job ∷ js))) left ∙ (ap (λ (js : List Job). without_marks (c.left ++ js)) (sym e) ∙ h.jobs)

-- the job was the next, and is put again, or is lost
back_ended : (job : Job) (jobs : List Job) (before c : LinkProgress) (m : LinkView) → c.link.outbox.jobs ≡ job ∷ jobs → m.outbox.jobs ≡ jobs
    → m.is_over ≡ c.link.is_over → m.handset ≡ c.link.handset → m.outbox.is_closed ≡ c.link.outbox.is_closed → m.outbox.octets ≡ c.link.outbox.octets → IsEnded before c
    → IsEnded before (taken_back job (handed_back job m) c)
back_ended (Frame octets) jobs before c m e left over handset closed sent h = record {
  over = over ∙ h.over;
  nobody = handset ∙ h.nobody;
  closed = closed ∙ h.closed;
  octets = sent ∙ h.octets;
  jobs = ap (λ (js : List Job). without_marks ((c.left ++ Frame octets ∷ []) ++ js)) left ∙ (ap without_marks (job_left c.left c.link.outbox.jobs jobs (Frame octets) e) ∙ h.jobs);
}
back_ended (Query account pdu) jobs before c m e left over handset closed sent h = record {
  over = over ∙ h.over;
  nobody = handset ∙ h.nobody;
  closed = closed ∙ h.closed;
  octets = sent ∙ h.octets;
  jobs = ap (λ (js : List Job). without_marks (c.left ++ js)) left
      ∙ (marks_append c.left jobs ∙ (sym (marks_append c.left (Query account pdu ∷ jobs)) ∙ (ap (λ (js : List Job). without_marks (c.left ++ js)) (sym e) ∙ h.jobs)));
}
back_ended (LinkUp handset) jobs before c m e left over nobody closed sent h =
    record { over = over ∙ h.over; nobody = nobody ∙ h.nobody; closed = closed ∙ h.closed; octets = sent ∙ h.octets; jobs = again (LinkUp handset) jobs before c m e left h }
back_ended (Bound account receives) jobs before c m e left over nobody closed sent h =
    record { over = over ∙ h.over; nobody = nobody ∙ h.nobody; closed = closed ∙ h.closed; octets = sent ∙ h.octets; jobs = again (Bound account receives) jobs before c m e left h }
back_ended Unbound jobs before c m e left over nobody closed sent h =
    record { over = over ∙ h.over; nobody = nobody ∙ h.nobody; closed = closed ∙ h.closed; octets = sent ∙ h.octets; jobs = again Unbound jobs before c m e left h }
back_ended (Submit account pdu) jobs before c m e left over nobody closed sent h =
    record { over = over ∙ h.over; nobody = nobody ∙ h.nobody; closed = closed ∙ h.closed; octets = sent ∙ h.octets; jobs = again (Submit account pdu) jobs before c m e left h }
back_ended (Cancel account pdu) jobs before c m e left over nobody closed sent h =
    record { over = over ∙ h.over; nobody = nobody ∙ h.nobody; closed = closed ∙ h.closed; octets = sent ∙ h.octets; jobs = again (Cancel account pdu) jobs before c m e left h }
back_ended (DeliverAnswered id is_accepted) jobs before c m e left over nobody closed sent h =
    record { over = over ∙ h.over; nobody = nobody ∙ h.nobody; closed = closed ∙ h.closed; octets = sent ∙ h.octets; jobs = again (DeliverAnswered id is_accepted) jobs before c m e left h }
back_ended LinkDown jobs before c m e left over nobody closed sent h =
    record { over = over ∙ h.over; nobody = nobody ∙ h.nobody; closed = closed ∙ h.closed; octets = sent ∙ h.octets; jobs = again LinkDown jobs before c m e left h }

put_back_ended : (marked due : Bool) (jobs : List Job) (before c : LinkProgress) → c.link.outbox.jobs ≡ jobs → IsEnded before c
    → IsEnded before (put_back_by (cond marked (None, c.link) (cond due (Some mark, record c.link { is_marked = true }) (handing (next_among jobs c.link.outbox) c.link))) c)
put_back_ended true due jobs before c e h = record { over = h.over; nobody = h.nobody; closed = h.closed; octets = h.octets; jobs = h.jobs }
put_back_ended false true jobs before c e h = record { over = h.over; nobody = h.nobody; closed = h.closed; octets = h.octets; jobs = h.jobs }
put_back_ended false false [] before c e h = record { over = h.over; nobody = h.nobody; closed = h.closed; octets = h.octets; jobs = h.jobs }
put_back_ended false false (job ∷ jobs) before c e h =
    back_ended job jobs before c (handing (next_among (job ∷ jobs) c.link.outbox) c.link).1 e refl refl refl refl refl h

pub drop_none : (count : ℕ) → drop {A = ℕ} count [] ≡ []
drop_none zero = refl
drop_none (suc n) = refl

less_if : (b : Bool) (count : ℕ) (w : OutboxView) → w.octets ≡ [] → (cond b (record w { octets = drop count w.octets }) w).octets ≡ []
less_if true count w e = ap (drop count) e ∙ drop_none count
less_if false count w e = e

less_same : (b : Bool) (count : ℕ) (w : OutboxView) → ((cond b (record w { octets = drop count w.octets }) w).jobs ≡ w.jobs) × ((cond b (record w { octets = drop count w.octets }) w).is_closed ≡ w.is_closed)
less_same true count w = (refl, refl)
less_same false count w = (refl, refl)

step_ended : (call : LinkCall) (before c d : LinkProgress) → IsEnded before c → LinkStep call c d → IsEnded before d
step_ended (At now) before c d h s = subst (IsEnded before) (sym s) (alike before c (at_time now c.link) h (time_alike now c.link h.nobody))
step_ended (Take octets) before c d h s =
    let same = unread octets c.link s.0 h.over s.1 in
    subst (IsEnded before) (sym s.2) (record {
      over = ap (λ (k : LinkView). k.is_over) same ∙ h.over;
      nobody = ap (λ (k : LinkView). k.handset) same ∙ h.nobody;
      closed = ap (λ (k : LinkView). k.outbox.is_closed) same ∙ h.closed;
      octets = ap (λ (k : LinkView). k.outbox.octets) same ∙ h.octets;
      jobs = ap (λ (k : LinkView). without_marks (c.left ++ k.outbox.jobs)) same ∙ h.jobs;
    })
step_ended (Hear reply) before c d h s = subst (IsEnded before) (sym s.2) (hears_ended reply before c s.0 h s.1)
step_ended GiveUp before c d h s = subst (IsEnded before) (sym s) (alike before c (sending congestion c.link) h (sending_alike congestion c.link h.closed))
step_ended (Send count) before c d h s =
    let b = leb count (length c.link.outbox.octets) in
    let same = less_same b count c.link.outbox in
    subst (IsEnded before) (sym s) (record {
      over = h.over;
      nobody = h.nobody;
      closed = same.1 ∙ h.closed;
      octets = less_if b count c.link.outbox h.octets;
      jobs = ap (λ (js : List Job). without_marks (c.left ++ js)) same.0 ∙ h.jobs;
    })
step_ended Put before c d h s = subst (IsEnded before) (sym s) (put_ended c.link.is_marked (eqb c.link.before_mark 0) c.link.outbox.jobs before c refl h)
step_ended PutBack before c d h s = subst (IsEnded before) (sym s) (put_back_ended c.link.is_marked (eqb c.link.before_mark 0) c.link.outbox.jobs before c refl h)
step_ended Tell before c d h s = subst (IsEnded before) (sym s) (alike before c (next_note c.link).1 h (told_alike c.link.notes c.link))
step_ended Close before c d h s =
    subst (IsEnded before) (sym s) (record { over = refl; nobody = refl; closed = refl; octets = refl; jobs = h.jobs })

run_ended : (calls : List LinkCall) (before c d : LinkProgress) → IsEnded before c → LinkRun c calls d → IsEnded before d
run_ended [] before c d h r = subst (IsEnded before) (sym r) h
run_ended (call ∷ calls) before c d h r = run_ended calls before r.0 d (step_ended call before c r.0 h r.1) r.2

pub after_end : (calls : List LinkCall) (before c : LinkProgress) → LinkRun (with_link (ended before.link) before) calls c → IsAfterEnd before c
after_end calls before c r =
    let h = run_ended calls before (with_link (ended before.link) before) c (record { over = refl; nobody = refl; closed = refl; octets = refl; jobs = refl }) r in
    record { jobs = h.jobs; octets = h.octets }
