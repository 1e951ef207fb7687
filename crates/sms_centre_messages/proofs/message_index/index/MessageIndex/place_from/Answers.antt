use Rattle.std.proofs.Common.{ℕ, sym, ◌∙◌, ap, subst}
use Rattle.sms_rows.specs.table.Table.{rows_from}
use Rattle.sms_centre_messages.specs.message_index.Entries.{message_entry_key}
use Rattle.sms_centre_messages.specs.message_index.MessageIndex.{MessageIndexOf, Represents}
use Rattle.sms_centre_messages.proofs.message_index.Forgetting.{from_alike}
use Rattle.sms_centre_messages.proofs.message_index.index.MessageIndex.place_from.Goals as goal

pub returns : goal.returns
returns c = λ ms ps h.
    let es = c.self.inside.messages.rows in
    from_alike c.self.inside.names c.args.number c.place_of.result es ms (subst (λ (k : MessageIndexOf). Represents k ms ps) (sym c.self.view_is) h).messages
    c.place_of.ensures.bound (c.place_of.ensures.from ∙ ap (λ (n : ℕ). rows_from message_entry_key n es) c.of.ensures)
