use Rattle.std.proofs.Common.{ℕ, sym, ◌∙◌, ap}
use Rattle.sms_centre_rows.specs.messages.Messages.{message_key}
use Rattle.sms_rows.specs.table.Table.{row_at}
use Rattle.sms_centre_messages.proofs.references.Recovering.{holds_unfound}
use Rattle.sms_centre_messages.proofs.references.reference_index.ReferenceIndex.bring_found.Goals as goal

pub returns-in-None : goal.returns-in-None
returns-in-None c = λ ps h rises new few.
    holds_unfound c.args.part.now c.args.self.now c.args.messages.now.rows ps h rises
    (ap (λ (k : ℕ). row_at message_key k c.args.messages.now.rows) (sym (c.of.ensures ∙ c.number.ensures.value)) ∙ sym c.in-None.ensures) new
