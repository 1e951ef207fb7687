use Rattle.std.proofs.Common.{◌≡◌, Option, Some, Result, Ok, Err, sym, ◌∙◌, subst}
use Rattle.std.specs.Prelude.{IfOk}
use Rattle.std.specs.List.{slice_get}
use Rattle.std.specs.declared.alloc.AllocError.{AllocError}
use Rattle.sms_centre_rows.specs.declared.messages.message.MessageRow.{MessageRow}
use Rattle.sms_centre_messages.specs.message_index.MessageIndex.{Represents, MessageIndexOf}
use Rattle.sms_centre_messages.proofs.message_index.IndexRepresents.{no_row, placed_row}
use Rattle.sms_centre_messages.proofs.message_index.index.MessageIndex.row.Goals as goal

same_row : (r : Result (Option MessageRow) AllocError) (a b : Option MessageRow) → a ≡ b → IfOk r (λ x. x ≡ a) → IfOk r (λ x. x ≡ b)
same_row (Ok x) a b e h = h ∙ e
same_row (Err x) a b e h = h

pub returns-in-Some : goal.returns-in-Some
returns-in-Some c = λ ms ps h.
    let f = placed_row c.self.inside.names c.args.place c.self.inside.messages.rows ms c.in-Some.entry.now
    (subst (λ (k : MessageIndexOf). Represents k ms ps) (sym c.self.view_is) h).messages
    (sym c.in-Some.ensures) in
    same_row c.row.result (Some f.0) (slice_get ms c.args.place) (sym f.1.0) (c.row.ensures f.0 f.1.1)

pub returns-in-None : goal.returns-in-None
returns-in-None c = λ ms ps h.
    sym (no_row c.self.inside.names c.args.place c.self.inside.messages.rows ms
    (subst (λ (k : MessageIndexOf). Represents k ms ps) (sym c.self.view_is) h).messages
    (sym c.in-None.ensures))
