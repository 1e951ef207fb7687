-- A refused submit_sm is noted.
use Rattle.std.proofs.Common.{◌≡◌, ℕ, Bool, true, cond, List, [], ◌∷◌, ◌++◌, Option, Some, None, refl, ap, ◌∙◌, append-nil}
use Rattle.smpp_pdu.specs.Statuses.{status_number}
use Rattle.smpp_pdu.specs.Writing.{written}
use Rattle.smpp_pdu.specs.declared.status.CommandStatus.{CommandStatus}
use Rattle.smpp_pdu.specs.declared.status.CommandStatus.TheVariants.{ESME_ROK}
use Rattle.smpp_session.specs.Answers.{answer_pdu, answered, last_unbind, owed_behind}
use Rattle.smpp_session.specs.Bindings.{is_bound}
use Rattle.smpp_session.specs.SessionTable.{unbind_resp_to}
use Rattle.smpp_session.specs.Sessions.{after_answered}
use Rattle.smpp_session.specs.declared.answer.Answer.{Answer}
use Rattle.smpp_session.specs.declared.answer.Answer.TheVariants.{Refused}
use Rattle.smpp_session.specs.declared.answer.Request.{Request}
use Rattle.smpp_session.specs.declared.answer.Request.TheVariants.{Submit as SubmitRequest}
use Rattle.smpp_session.specs.declared.conversation.Conversation.{Conversation}
use Rattle.sms_centre_spec.specs.declared.answer.CentreAnswer.TheVariants.{Refused as RefusedOf}
use Rattle.smsc_loop.specs.declared.note.Note.{Note}
use Rattle.smsc_loop.specs.declared.note.Note.TheVariants.{SubmitRefused}
use Rattle.smsc_endpoint.specs.declared.pending.PendingRequest.{PendingRequest}
use Rattle.smsc_endpoint.specs.EsmeCalls.{answered_first, answered_next, header_in, responding, submit_refused}
use Rattle.smsc_endpoint.specs.EsmeView.{EsmeView}
use Rattle.smsc_endpoint.specs.PendingRequests.{left_without}
use Rattle.smsc_endpoint.specs.Responses.{refusal_status}
use Rattle.smsc_endpoint.proofs.EsmeRuns.{bound_goes}

-- the octets of each refusal
said : (status : CommandStatus) (number : ℕ) → submit_refused (header_in (written (answer_pdu number (Refused SubmitRequest (refusal_status status))))) ≡ SubmitRefused (status_number (refusal_status status)) ∷ []
unfolding answer_pdu
said ESME_ROK number = refl
said _ number = refl

bound_says : (c : Conversation) (number : ℕ) (answer : Answer) → is_bound c.state ≡ true → answered c number answer ≡ Some (written (answer_pdu number answer))
bound_says c number answer e =
    let goes = bound_goes c.state (owed_behind number c) e in
    let octets = written (answer_pdu number answer) in
    ap (λ (b : Bool). cond b None (Some (octets ++ unbind_resp_to (last_unbind number c)))) goes.0
    ∙ (ap (λ (b : Bool). Some (octets ++ unbind_resp_to (cond b c.unbind None))) goes.1 ∙ ap (λ (os : List ℕ). Some os) (append-nil octets))

pub refusal_noted : (e : EsmeView) (request : PendingRequest) (requests : List PendingRequest) (status : CommandStatus) → e.waiting ≡ request ∷ requests
    → request.request ≡ SubmitRequest → is_bound e.session.conversation.state ≡ true
    → (answered_next (RefusedOf status) e).notes ≡ e.notes ++ SubmitRefused (status_number (refusal_status status)) ∷ []
refusal_noted e request requests status is submits bound =
    ap (λ (rs : List PendingRequest). (answered_first rs (RefusedOf status) e).notes) is
    ∙ (ap (λ (os : Option (List ℕ)). (responding os before).notes) (bound_says e.session.conversation request.sequence_number (Refused request.request (refusal_status status)) bound)
    ∙ (ap (λ (asked : Request). e.notes ++ submit_refused (header_in (written (answer_pdu request.sequence_number (Refused asked (refusal_status status)))))) submits
    ∙ ap (λ (notes : List Note). e.notes ++ notes) (said status request.sequence_number))) where
      before : EsmeView
      before = record e { session = after_answered request.sequence_number e.session; waiting = requests; with_keeper = left_without request e.with_keeper }
