use Rattle.std.proofs.Common.{◌≡◌, ℕ, List, sym, subst}
use Rattle.std.specs.Prelude.{IfOk}
use Rattle.sms_base.specs.MessageId.{id_text}
use Rattle.smpp_session.specs.declared.answer.Answer.TheVariants.{Queried}
use Rattle.smpp_session.specs.Answers.{answered}
use Rattle.sms_centre_spec.specs.declared.answer.CentreAnswer.{CentreAnswer}
use Rattle.sms_receipt.specs.Receipts.{state_number}
use Rattle.smsc_endpoint.specs.Responses.{response as response_to}
use Rattle.smsc_endpoint.proofs.responses.response.Goals as goal

pub returns-in_ok-date-in-Queried-clause-octets : goal.returns-in_ok-date-in-Queried-clause-octets
returns-in_ok-date-in-Queried-clause-octets c =
    subst (λ (a : CentreAnswer). IfOk c.queried.result (λ octets. octets ≡ response_to c.args.session.now.conversation c.args.waiting a))
    (sym c.in-Queried.is)
    (subst (λ (text : List ℕ). IfOk c.queried.result (λ octets. octets
    ≡ answered c.args.session.now.conversation c.args.waiting.sequence_number
    (Queried (record { message_id = id_text c.in-Queried.id; final_date = text; message_state = state_number c.in-Queried.state; error_code = 0 }))))
    c.in_ok-date-in-Queried.ensures.value c.queried.ensures.octets)
