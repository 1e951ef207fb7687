-- The answer among the replies to seats.
use Rattle.std.proofs.Common.{◌≡◌, ◌<◌, subst, ap, ◌∙◌, ℕ, Bool, cond, List, Some, None, Result, Ok}
use Rattle.std.proofs.lemmas.Bool.{lt-ltb}
use Rattle.sms_base.specs.Among.{Among}
use Rattle.smpp_pdu.specs.PduReading.{pdu_at}
use Rattle.smpp_pdu.specs.declared.body.Body.TheVariants.{SubmitSm}
use Rattle.smpp_pdu.specs.declared.fault.PduFault.{PduFault}
use Rattle.smpp_pdu.specs.declared.message.Message.{Message}
use Rattle.smpp_pdu.specs.declared.pdu.Pdu.{Pdu}
use Rattle.sms_centre_spec.specs.CentreEvent.{happened}
use Rattle.sms_centre_spec.specs.Draft.{messages_in}
use Rattle.sms_centre_spec.specs.declared.answer.CentreAnswer.{CentreAnswer}
use Rattle.sms_centre_spec.specs.declared.event.CentreEvent.TheVariants.{Submit as SubmitEvent}
use Rattle.sms_centre_spec.specs.declared.jobs.job.Job.TheVariants.{Submit as SubmitJob}
use Rattle.sms_keeper.specs.declared.machine.Fate.TheVariants.{Done}
use Rattle.sms_keeper.specs.declared.machine.Stimulus.TheVariants.{Job as JobOf}
use Rattle.smsc_service.specs.declared.asking.SeatRequest.{SeatRequest}
use Rattle.smsc_service.specs.declared.asking.SeatRequest.TheVariants.{Event, Nothing}
use Rattle.smsc_service.specs.Asking.{asked, asked_by, read_as, submission}
use Rattle.smsc_service.specs.Replies.{answer_for}
use Rattle.smsc_service.specs.Serving.{Serving, gives, outs_for}
use Rattle.smsc_service.proofs.RokNames.{replied_answer}

asks : (s : Serving) (seat account : ℕ) (pdu : List ℕ) (whole : Pdu) (message : Message) → seat < 32 → pdu_at pdu ≡ Ok whole → whole.body ≡ SubmitSm message
    → asked_by s.seats (JobOf seat (SubmitJob account pdu)) ≡ Event (SubmitEvent account message)
asks s seat account pdu whole message few reads is =
    ap (λ (b : Bool). cond b (asked s.seats seat (SubmitJob account pdu)) Nothing) (lt-ltb seat 32 few)
    ∙ (ap (λ (r : Result Pdu PduFault). read_as (submission account) r) reads ∙ ap (submission account) is)

pub submission_replied : (s : Serving) (seat account to : ℕ) (pdu : List ℕ) (whole : Pdu) (message : Message) (answer : CentreAnswer) → seat < 32 → pdu_at pdu ≡ Ok whole
    → whole.body ≡ SubmitSm message → Among (answer_for to answer) (gives s (JobOf seat (SubmitJob account pdu)) Done)
    → (to ≡ seat) × ((happened (SubmitEvent account message) s.core).answer ≡ Some answer)
submission_replied s seat account to pdu whole message answer few reads is there =
    let d = happened (SubmitEvent account message) s.core in
    replied_answer to answer None seat s.seats.links d.answer d.links.frames (messages_in d.store) d.bindings.deliveries
    (subst (λ (a : SeatRequest). Among (answer_for to answer) (outs_for a Done s (JobOf seat (SubmitJob account pdu)))) (asks s seat account pdu whole message few reads is) there)
