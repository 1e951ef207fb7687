use Rattle.std.proofs.Common.{◌≡◌, ℕ, Some, sym, ◌∙◌, ap}
use Rattle.sms_centre_rows.specs.declared.messages.message.MessageRow.{MessageRow}
use Rattle.sms_centre_rows.specs.messages.Messages.{message_key}
use Rattle.sms_rows.specs.declared.table.change.Change.{Change}
use Rattle.sms_rows.specs.declared.table.change.Change.TheVariants.{Put}
use Rattle.sms_rows.specs.table.Table.{newest_of}
use Rattle.sms_centre_messages.proofs.references.Adopted.{arrived_as}
use Rattle.sms_centre_messages.proofs.references.reference_index.ReferenceIndex.put_part.Goals as goal

pub returns-in-Some-Put-clause-holds : goal.returns-in-Some-Put-clause-holds
returns-in-Some-Put-clause-holds c = λ bs base ms ps is h rises move.
    let newest : newest_of message_key c.args.part.now.id c.args.messages.now ≡ Some (Put c.in-Some-Put.message) =
    ap (λ (k : ℕ). newest_of message_key k c.args.messages.now) (sym (c.of.ensures ∙ c.number.ensures.value)) ∙ sym c.in-Some-Put.ensures ∙ ap (λ (x : Change MessageRow). Some x) c.in-Some-Put.field-0-is in
    c.bring_ready.ensures.holds bs ms ps h rises (arrived_as c.args.messages.now base ms c.args.part.now.id c.in-Some-Put.message is newest) move.1.1.0 move.1.1.1
