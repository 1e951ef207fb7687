use Rattle.std.proofs.Common.{ℕ, List, Option, ◌∙◌, ap}
use Rattle.sms_intake.specs.SmppIntake.{source_in}
use Rattle.sms_centre_rows.specs.declared.messages.message.MessageRow.{MessageRow}
use Rattle.sms_centre_spec.specs.Draft.{messages_in}
use Rattle.sms_centre_spec.specs.Numbers.{id_in}
use Rattle.sms_centre_spec.specs.Requests.{message_numbered, only_to, own_message}
use Rattle.sms_centre_events.proofs.questions.asked.Goals as goal

pub returns : goal.returns
returns c = λ d represents.
    let account = c.args.account.now in
    let source = source_in account.address c.args.cancel.now.source in
    c.only_to.ensures
    ∙ ap (λ (o : Option MessageRow). only_to c.args.cancel.now.destination o)
    (c.in_ok-found.ensures d represents ∙ ap (λ (t : List ℕ). own_message account source (message_numbered (id_in t) (messages_in d.store))) c.as_slice.ensures)
