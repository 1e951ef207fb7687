use Rattle.std.proofs.Common.{ℕ, Option, sym, ◌∙◌, ap, subst}
use Rattle.sms_centre_rows.specs.declared.messages.message.MessageRow.{MessageRow}
use Rattle.sms_rows.specs.table.Table.{row_at}
use Rattle.sms_centre_messages.specs.message_index.Entries.{message_entry_key}
use Rattle.sms_centre_messages.specs.message_index.MessageIndex.{Represents, MessageIndexOf}
use Rattle.sms_centre_messages.specs.message_index.MessageIndex.{past_id}
use Rattle.sms_centre_messages.proofs.message_index.IndexRepresents.{found_none, past_some}
use Rattle.sms_centre_messages.proofs.message_index.index.MessageIndex.past_id.Goals as goal

pub returns-in-Some : goal.returns-in-Some
returns-in-Some c = λ ms ps h.
    c.past_entry.ensures
    ∙ sym (past_some (record { names = c.self.inside.names; messages = c.self.inside.messages; parts = c.self.inside.parts; deadlines = c.self.inside.deadlines }) ms ps c.args.number c.args.now c.in-Some.entry.now (subst (λ (k : MessageIndexOf). Represents k ms ps) (sym c.self.view_is) h)
    (ap (λ (k : ℕ). row_at message_entry_key k c.self.inside.messages.rows) (sym c.of.ensures) ∙ sym c.in-Some.ensures))

pub returns-in-None : goal.returns-in-None
returns-in-None c = λ ms ps h.
    sym (ap (λ (o : Option MessageRow). past_id c.args.now o) (found_none (record { names = c.self.inside.names; messages = c.self.inside.messages; parts = c.self.inside.parts; deadlines = c.self.inside.deadlines }) ms ps c.args.number (subst (λ (k : MessageIndexOf). Represents k ms ps) (sym c.self.view_is) h)
    (ap (λ (k : ℕ). row_at message_entry_key k c.self.inside.messages.rows) (sym c.of.ensures) ∙ sym c.in-None.ensures)))
