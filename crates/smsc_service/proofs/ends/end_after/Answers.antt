use Rattle.std.proofs.Common.{◌≡◌, Option, sym, ◌∙◌, ap, subst}
use Rattle.std.specs.Prelude.{IfOk}
use Rattle.sms_centre_rows.specs.declared.messages.message.MessageRow.{MessageRow}
use Rattle.sms_centre_rows.specs.messages.Messages.{message_key}
use Rattle.sms_rows.specs.declared.table.change.Change.{Change}
use Rattle.sms_rows.specs.table.Table.{left_by, row_at}
use Rattle.sms_rows.proofs.table.Tables.{row_at_all_applied}
use Rattle.smsc_service.specs.Replies.{end_of}
use Rattle.smsc_service.proofs.ends.end_after.Goals as goal

pub returns-in-Some : goal.returns-in-Some
returns-in-Some c = λ core centre_state.
    let changes = c.args.planned.now.plan.changes.messages in
    let rows = core.rows.messages in
    c.end_left.ensures
    ∙ ap (λ (o : Option MessageRow). end_of o) (sym (row_at_all_applied message_key c.args.id changes rows ∙ ap (λ (o : Option (Change MessageRow)). left_by o (row_at message_key c.args.id rows)) (sym c.in-Some.ensures)))

pub returns-in-None : goal.returns-in-None
returns-in-None c = λ core centre_state.
    let changes = c.args.planned.now.plan.changes.messages in
    let rows = core.rows.messages in
    subst (λ (o : Option MessageRow). IfOk c.end_at.result (λ end. end ≡ end_of o))
    (sym (row_at_all_applied message_key c.args.id changes rows ∙ ap (λ (o : Option (Change MessageRow)). left_by o (row_at message_key c.args.id rows)) (sym c.in-None.ensures)))
    (c.end_at.ensures core centre_state)
