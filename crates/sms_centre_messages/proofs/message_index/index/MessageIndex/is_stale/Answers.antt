use Rattle.std.proofs.Common.{ℕ, Option, sym, ◌∙◌, ap, subst}
use Rattle.sms_centre_rows.specs.declared.messages.message.MessageRow.{MessageRow}
use Rattle.sms_rows.specs.table.Table.{row_at}
use Rattle.sms_centre_messages.specs.message_index.Entries.{message_entry_key}
use Rattle.sms_centre_messages.specs.message_index.MessageIndex.{Represents, MessageIndexOf, is_ended}
use Rattle.sms_centre_messages.proofs.message_index.IndexRepresents.{ended_some, found_none, told}
use Rattle.sms_centre_messages.proofs.message_index.index.MessageIndex.is_stale.Goals as goal

pub returns-in-Some : goal.returns-in-Some
returns-in-Some c = λ ms ps h t.
    ended_some (record { names = c.self.inside.names; messages = c.self.inside.messages; parts = c.self.inside.parts; deadlines = c.self.inside.deadlines }) ms ps c.args.deadline.now.id c.in-Some.entry.now (subst (λ (k : MessageIndexOf). Represents k ms ps) (sym c.self.view_is) h)
    (ap (λ (k : ℕ). row_at message_entry_key k c.self.inside.messages.rows) (sym (c.of.ensures ∙ c.number.ensures.value)) ∙ sym c.in-Some.ensures)
    ∙ told c.in-Some.entry.now.state ∙ sym c.is_some.ensures ∙ t

pub returns-in-None : goal.returns-in-None
returns-in-None c = λ ms ps h t.
    ap (λ (o : Option MessageRow). is_ended o)
    (found_none (record { names = c.self.inside.names; messages = c.self.inside.messages; parts = c.self.inside.parts; deadlines = c.self.inside.deadlines }) ms ps c.args.deadline.now.id (subst (λ (k : MessageIndexOf). Represents k ms ps) (sym c.self.view_is) h)
    (ap (λ (k : ℕ). row_at message_entry_key k c.self.inside.messages.rows) (sym (c.of.ensures ∙ c.number.ensures.value)) ∙ sym c.in-None.ensures))
