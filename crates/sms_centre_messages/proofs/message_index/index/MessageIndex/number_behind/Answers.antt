use Rattle.std.proofs.Common.{◌≡◌, ℕ, ◌+◌, ◌-◌, ◌≤◌, drop, length, Some, None, sym, ◌∙◌, ap, subst, arith}
use Rattle.std.specs.List.{slice_get}
use Rattle.sms_rows.specs.table.Table.{rows_from}
use Rattle.sms_centre_rows.specs.messages.Messages.{message_key}
use Rattle.sms_centre_messages.specs.message_index.Entries.{message_entry_key}
use Rattle.sms_centre_messages.specs.message_index.MessageIndex.{Represents, MessageIndexOf}
use Rattle.sms_centre_messages.proofs.message_index.Numbers.{entries_behind, entry_behind, none_behind, numbered, unnumbered}
use Rattle.sms_centre_messages.proofs.message_index.index.MessageIndex.number_behind.Goals as goal

pub returns-then-len-start : goal.returns-then-len-start
returns-then-len-start c = λ ms ps h.
    let es = c.self.inside.messages.rows in
    let from : drop c.place_of-start.result es ≡ rows_from message_entry_key c.args.number es = c.place_of-start.ensures.from ∙ ap (λ (n : ℕ). rows_from message_entry_key n es) c.of.ensures in
    let few : length es - c.place_of-start.result ≤ c.args.most = omega (arith, c.len.ensures, c.from-most.ensures, c.if-len-start.true) in
    unnumbered c.self.inside.names c.args.most (rows_from message_entry_key c.args.number es) (rows_from message_key c.args.number ms)
    (entries_behind c.self.inside.names c.args.number es ms (subst (λ (k : MessageIndexOf). Represents k ms ps) (sym c.self.view_is) h).messages)
    (none_behind c.args.number c.place_of-start.result c.args.most es from few)

pub returns-in-Some : goal.returns-in-Some
returns-in-Some c = λ ms ps h.
    let es = c.self.inside.messages.rows in
    let from : drop c.place_of-start.result es ≡ rows_from message_entry_key c.args.number es = c.place_of-start.ensures.from ∙ ap (λ (n : ℕ). rows_from message_entry_key n es) c.of.ensures in
    c.number.ensures.value
    ∙ numbered c.self.inside.names c.args.most (rows_from message_entry_key c.args.number es) (rows_from message_key c.args.number ms) c.in-Some.entry.now
    (entries_behind c.self.inside.names c.args.number es ms (subst (λ (k : MessageIndexOf). Represents k ms ps) (sym c.self.view_is) h).messages)
    (entry_behind c.args.number c.place_of-start.result c.args.most es from
    ∙ ap (λ (n : ℕ). slice_get es (c.place_of-start.result + n)) (sym c.from-most.ensures) ∙ sym c.in-Some.ensures)

pub returns-in-None : goal.returns-in-None
returns-in-None c = λ ms ps h.
    let es = c.self.inside.messages.rows in
    let from : drop c.place_of-start.result es ≡ rows_from message_entry_key c.args.number es = c.place_of-start.ensures.from ∙ ap (λ (n : ℕ). rows_from message_entry_key n es) c.of.ensures in
    unnumbered c.self.inside.names c.args.most (rows_from message_entry_key c.args.number es) (rows_from message_key c.args.number ms)
    (entries_behind c.self.inside.names c.args.number es ms (subst (λ (k : MessageIndexOf). Represents k ms ps) (sym c.self.view_is) h).messages)
    (entry_behind c.args.number c.place_of-start.result c.args.most es from
    ∙ ap (λ (n : ℕ). slice_get es (c.place_of-start.result + n)) (sym c.from-most.ensures) ∙ sym c.in-None.ensures)
