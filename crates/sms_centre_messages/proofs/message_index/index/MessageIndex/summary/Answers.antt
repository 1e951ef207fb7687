use Rattle.std.proofs.Common.{Option, sym, ◌∙◌, ap, subst}
use Rattle.std.specs.Option.{option_map}
use Rattle.sms_centre_rows.specs.declared.messages.message.MessageRow.{MessageRow}
use Rattle.sms_centre_messages.specs.message_index.MessageIndex.{Represents, MessageIndexOf}
use Rattle.sms_centre_messages.specs.message_index.Summaries.{summary_of}
use Rattle.sms_centre_messages.proofs.message_index.IndexRepresents.{no_row, placed_row}
use Rattle.sms_centre_messages.proofs.message_index.index.MessageIndex.summary.Goals as goal

pub returns-in-Some : goal.returns-in-Some
returns-in-Some c = λ ms ps h.
    let f = placed_row c.self.inside.names c.args.place c.self.inside.messages.rows ms c.in-Some.entry.now
    (subst (λ (k : MessageIndexOf). Represents k ms ps) (sym c.self.view_is) h).messages
    (sym c.in-Some.ensures) in
    c.summary.ensures f.0 f.1.1 ∙ ap (λ (o : Option MessageRow). option_map summary_of o) (sym f.1.0)

pub returns-in-None : goal.returns-in-None
returns-in-None c = λ ms ps h.
    ap (λ (o : Option MessageRow). option_map summary_of o)
    (sym (no_row c.self.inside.names c.args.place c.self.inside.messages.rows ms
    (subst (λ (k : MessageIndexOf). Represents k ms ps) (sym c.self.view_is) h).messages
    (sym c.in-None.ensures)))
