use Rattle.std.proofs.Common.{◌≡◌, ℕ, List, subst, ◌∙◌}
use Rattle.std.specs.Prelude.{IfOk}
use Rattle.sms_base.specs.MessageId.{id_text}
use Rattle.smpp_session.specs.declared.answer.Answer.TheVariants.{Queried}
use Rattle.smpp_session.specs.Answers.{answered}
use Rattle.sms_receipt.specs.Receipts.{state_number}
use Rattle.smsc_endpoint.proofs.responses.queried.Goals as goal

pub returns-clause-octets : goal.returns-clause-octets
returns-clause-octets c =
    let id : c.of.result ≡ id_text c.args.id = c.of.ensures ∙ c.id_digits-digits.ensures.value in
    let date : c.of-2.result ≡ c.args.date.now = c.of-2.ensures ∙ c.as_slice.ensures in
    let state : c.message_state.result ≡ state_number c.args.state = c.message_state.ensures in
    subst (λ (n : ℕ). IfOk c.answer.result (λ octets. octets
    ≡ answered c.args.session.now.conversation c.args.sequence_number (Queried (record { message_id = id_text c.args.id; final_date = c.args.date.now; message_state = n; error_code = 0 }))))
    state
    (subst (λ (text : List ℕ). IfOk c.answer.result (λ octets. octets
    ≡ answered c.args.session.now.conversation c.args.sequence_number (Queried (record { message_id = id_text c.args.id; final_date = text; message_state = c.message_state.result; error_code = 0 }))))
    date
    (subst (λ (text : List ℕ). IfOk c.answer.result (λ octets. octets
    ≡ answered c.args.session.now.conversation c.args.sequence_number (Queried (record { message_id = text; final_date = c.of-2.result; message_state = c.message_state.result; error_code = 0 }))))
    id c.answer.ensures.octets))
