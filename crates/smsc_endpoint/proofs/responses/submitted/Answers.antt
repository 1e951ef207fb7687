use Rattle.std.proofs.Common.{◌≡◌, ℕ, List, subst, ◌∙◌}
use Rattle.std.specs.Prelude.{IfOk}
use Rattle.sms_base.specs.MessageId.{id_text}
use Rattle.smpp_session.specs.declared.answer.Answer.TheVariants.{Submitted}
use Rattle.smpp_session.specs.Answers.{answered}
use Rattle.smsc_endpoint.proofs.responses.submitted.Goals as goal

pub returns-clause-octets : goal.returns-clause-octets
returns-clause-octets c =
    let id : c.of.result ≡ id_text c.args.id = c.of.ensures ∙ c.id_digits-digits.ensures.value in
    subst (λ (text : List ℕ). IfOk c.answer.result (λ octets. octets ≡ answered c.args.session.now.conversation c.args.sequence_number (Submitted (record { message_id = text }))))
    id c.answer.ensures.octets
