use Rattle.std.proofs.Common.{◌≡◌, ℕ, Option, sym, ◌∙◌, ap, subst}
use Rattle.std.specs.Option.{option_map}
use Rattle.sms_centre_rows.specs.declared.messages.message.MessageRow.{MessageRow}
use Rattle.sms_rows.specs.table.Table.{row_at}
use Rattle.sms_centre_messages.specs.message_index.Entries.{message_entry_key}
use Rattle.sms_centre_messages.specs.message_index.MessageIndex.{Represents, MessageIndexOf}
use Rattle.sms_centre_messages.specs.message_index.Summaries.{summary_of}
use Rattle.sms_centre_messages.proofs.message_index.IndexRepresents.{found_none, found_row}
use Rattle.sms_centre_messages.proofs.message_index.index.MessageIndex.peek.Goals as goal

pub returns-in-Some : goal.returns-in-Some
returns-in-Some c = λ ms ps h.
    let f = found_row (record { names = c.self.inside.names; messages = c.self.inside.messages; parts = c.self.inside.parts; deadlines = c.self.inside.deadlines }) ms ps c.args.id c.in-Some.entry.now (subst (λ (k : MessageIndexOf). Represents k ms ps) (sym c.self.view_is) h)
    (ap (λ (k : ℕ). row_at message_entry_key k c.self.inside.messages.rows) (sym (c.of.ensures ∙ c.number.ensures.value)) ∙ sym c.in-Some.ensures) in
    c.summary.ensures f.0 f.1.1 ∙ ap (λ (o : Option MessageRow). option_map summary_of o) (sym f.1.0)

pub returns-in-None : goal.returns-in-None
returns-in-None c = λ ms ps h.
    ap (λ (o : Option MessageRow). option_map summary_of o) (sym (found_none (record { names = c.self.inside.names; messages = c.self.inside.messages; parts = c.self.inside.parts; deadlines = c.self.inside.deadlines }) ms ps c.args.id (subst (λ (k : MessageIndexOf). Represents k ms ps) (sym c.self.view_is) h)
    (ap (λ (k : ℕ). row_at message_entry_key k c.self.inside.messages.rows) (sym (c.of.ensures ∙ c.number.ensures.value)) ∙ sym c.in-None.ensures)))
