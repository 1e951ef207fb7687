-- Where the centre forgets something, an errand asked that of it; so where it takes an account.
use Rattle.std.proofs.Common.{◌≡◌, ℕ, List, Option, Some, None, Result, Ok, Err, Bool, true, false, true≢false, if◌then◌else◌, refl, sym, ap, subst, ◌∙◌}
use Rattle.std.specs.Prelude.{nat_lt}
use Rattle.std.proofs.lemmas.Bool.{cond_both}
use Rattle.smpp_pdu.specs.PduReading.{pdu_at}
use Rattle.smpp_pdu.specs.declared.body.Body.{Body}
use Rattle.smpp_pdu.specs.declared.body.Body.TheVariants.{SubmitSm, QuerySm, CancelSm}
use Rattle.smpp_pdu.specs.declared.fault.PduFault.{PduFault}
use Rattle.smpp_pdu.specs.declared.pdu.Pdu.{Pdu}
use Rattle.sms_centre_spec.specs.declared.event.CentreEvent.{CentreEvent}
use Rattle.sms_centre_spec.specs.declared.event.CentreEvent.TheVariants.{LinkDown as LinkDownOf, Frame as FrameOf}
use Rattle.sms_centre_spec.specs.declared.jobs.job.Job.{Job}
use Rattle.sms_centre_spec.specs.declared.jobs.job.Job.TheVariants.{Bound, Unbound, Submit, Query, Cancel, DeliverAnswered, LinkUp, LinkDown, Frame}
use Rattle.sms_centre_spec.specs.forgetting.Forget.{is_going_now}
use Rattle.sms_intake.specs.declared.submission.CentreAccount.{CentreAccount}
use Rattle.sms_keeper.specs.declared.machine.Errand.TheVariants.{Forget as ForgetErrand, Retry, Delete, Enrol as EnrolErrand}
use Rattle.sms_keeper.specs.declared.machine.Fate.{Fate}
use Rattle.sms_keeper.specs.declared.machine.Fate.TheVariants.{Done, NoMemory, Refused}
use Rattle.sms_keeper.specs.declared.machine.Stimulus.{Stimulus}
use Rattle.sms_keeper.specs.declared.machine.Stimulus.TheVariants.{Job as JobOf, Tick, Own}
use Rattle.smsc_service.specs.Asking.{asked, asked_by, link_for, of_handset, question, read_as, submission, withdrawal}
use Rattle.smsc_service.specs.Numbers.{is_number}
use Rattle.smsc_service.specs.Seats.{Seats, handset_at, seat_of}
use Rattle.smsc_service.specs.Serving.{Serving}
use Rattle.smsc_service.specs.declared.asking.SeatRequest.{SeatRequest}
use Rattle.smsc_service.specs.declared.asking.SeatRequest.TheVariants.{Event, Nothing, Taken, Forget, Enrol}
use Rattle.smsc_server.specs.Forgotten.{forgets_for}

-- ---- what a job asks

-- no seat asks of it to forget, or to take an account
abbrev pub Keeps : SeatRequest → Type 0
Keeps (Event event) = Unit {0}
Keeps Nothing = Unit {0}
Keeps Taken = Unit {0}
Keeps (Forget before from most) = ⊥
Keeps (Enrol account) = ⊥

submission_keeps : (account : ℕ) (body : Body) → Keeps (submission account body)
submission_keeps account (SubmitSm asked) = tt
submission_keeps account body = tt

question_keeps : (account : ℕ) (body : Body) → Keeps (question account body)
question_keeps account (QuerySm asked) = tt
question_keeps account body = tt

withdrawal_keeps : (account : ℕ) (body : Body) → Keeps (withdrawal account body)
withdrawal_keeps account (CancelSm asked) = tt
withdrawal_keeps account body = tt

read_keeps : (ask : Body → SeatRequest) → ((body : Body) → Keeps (ask body)) → (r : Result Pdu PduFault) → Keeps (read_as ask r)
read_keeps ask h (Ok pdu) = h pdu.body
read_keeps ask h (Err fault) = tt

link_keeps : (o : Option ℕ) (handset : List ℕ) → Keeps (link_for o handset)
link_keeps (Some seat) handset = tt
link_keeps None handset = tt

handset_keeps : (event : List ℕ → CentreEvent) (o : Option (List ℕ)) → Keeps (of_handset event o)
handset_keeps event None = tt
handset_keeps event (Some handset) =
    cond_both (is_number handset) (Event (event handset)) Nothing (λ (a : SeatRequest). Keeps a) (λ t. tt) (λ t. tt)

job_keeps : (s : Seats) (seat : ℕ) (job : Job) → Keeps (asked s seat job)
job_keeps s seat (Bound account receives) = tt
job_keeps s seat Unbound = tt
job_keeps s seat (Submit account pdu) = read_keeps (submission account) (submission_keeps account) (pdu_at pdu)
job_keeps s seat (Query account pdu) = read_keeps (question account) (question_keeps account) (pdu_at pdu)
job_keeps s seat (Cancel account pdu) = read_keeps (withdrawal account) (withdrawal_keeps account) (pdu_at pdu)
job_keeps s seat (DeliverAnswered id is_accepted) = tt
job_keeps s seat (LinkUp handset) =
    cond_both (is_number handset) (link_for (seat_of handset s.links) handset) Nothing (λ (a : SeatRequest). Keeps a)
    (λ t. link_keeps (seat_of handset s.links) handset) (λ t. tt)
job_keeps s seat LinkDown = handset_keeps (λ (handset : List ℕ). LinkDownOf handset) (handset_at seat s.links)
job_keeps s seat (Frame octets) = handset_keeps (λ (handset : List ℕ). FrameOf handset octets None) (handset_at seat s.links)

pub seat_keeps : (s : Seats) (seat : ℕ) (job : Job) → Keeps (asked_by s (JobOf seat job))
seat_keeps s seat job = cond_both (nat_lt seat 32) (asked s seat job) Nothing (λ (a : SeatRequest). Keeps a) (λ t. job_keeps s seat job) (λ t. tt)

-- ---- what an errand asks

-- the errand that asks it
errand_of : SeatRequest → Stimulus Job
errand_of (Event event) = Tick 0
errand_of Nothing = Tick 0
errand_of Taken = Tick 0
errand_of (Forget before from most) = Own (ForgetErrand before from most)
errand_of (Enrol account) = Own (EnrolErrand account)

no_forget : (event : CentreEvent) (before from most : ℕ) → Event event ≡ Forget before from most → ⊥
no_forget event before from most e = cc

no_enrol : (account : CentreAccount) (before from most : ℕ) → Enrol account ≡ Forget before from most → ⊥
no_enrol account before from most e = cc

pub forget_asked : (s : Seats) (stimulus : Stimulus Job) (before from most : ℕ) → asked_by s stimulus ≡ Forget before from most → stimulus ≡ Own (ForgetErrand before from most)
unfolding errand_of
forget_asked s (JobOf seat job) before from most e = absurd (subst Keeps e (seat_keeps s seat job))
forget_asked s (Tick now) before from most e = absurd (no_forget _ before from most e)
forget_asked s (Own (ForgetErrand b f m)) before from most e = ap errand_of e
forget_asked s (Own (Retry id)) before from most e = absurd (no_forget _ before from most e)
forget_asked s (Own (Delete id)) before from most e = absurd (no_forget _ before from most e)
forget_asked s (Own (EnrolErrand account)) before from most e = absurd (no_enrol account before from most e)

pub forgot_so : (a : SeatRequest) (fate : Fate) (s : Serving) (id : ℕ) → forgets_for a fate s id ≡ true
    → (before : ℕ) × (from : ℕ) × (most : ℕ) × (a ≡ Forget before from most) × (is_going_now before from most s.core id ≡ true)
forgot_so (Event event) fate s id e = absurd (true≢false (sym e))
forgot_so Nothing fate s id e = absurd (true≢false (sym e))
forgot_so Taken fate s id e = absurd (true≢false (sym e))
forgot_so (Forget before from most) Done s id e = (before, from, most, refl, e)
forgot_so (Forget before from most) NoMemory s id e = absurd (true≢false (sym e))
forgot_so (Forget before from most) Refused s id e = absurd (true≢false (sym e))
forgot_so (Enrol account) fate s id e = absurd (true≢false (sym e))
