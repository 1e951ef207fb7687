use Rattle.std.proofs.Common.{ℕ, List, Option, subst, ◌∙◌, ap}
use Rattle.sms_intake.specs.SmppIntake.{source_in}
use Rattle.sms_centre_rows.specs.declared.messages.message.MessageRow.{MessageRow}
use Rattle.sms_centre_spec.specs.Draft.{messages_in}
use Rattle.sms_centre_spec.specs.Numbers.{id_in}
use Rattle.sms_centre_spec.specs.Requests.{message_numbered, own_message, queried}
use Rattle.sms_centre_draft.specs.CentreDraft.{Represents}
use Rattle.sms_centre_events.proofs.questions.query_by.Goals as goal

pub returns : goal.returns
returns c = λ d represents.
    let account = c.args.account.now in
    let source = source_in account.address c.args.query.now.source in
    subst (λ (o : Option MessageRow). Represents (queried o d) c.queried.new.draft)
    (c.in_ok-found.ensures d represents ∙ ap (λ (t : List ℕ). own_message account source (message_numbered (id_in t) (messages_in d.store))) c.as_slice.ensures)
    (c.queried.ensures d represents)
