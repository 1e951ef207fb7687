use Rattle.std.proofs.Common.{[], List, refl, sym, subst, arith}
use Rattle.sms_rows.specs.table.Table.{Rises}
use Rattle.sms_centre_rows.specs.declared.messages.message.MessageRow.{MessageRow}
use Rattle.sms_centre_rows.specs.messages.Messages.{message_key}
use Rattle.sms_centre_messages.specs.references.ReferenceIndex.{AreFew, Represents}
use Rattle.sms_centre_messages.proofs.references.reference_index.ReferenceIndex.fill.Goals as goal

pub returns : goal.returns
returns c = λ none rises.
    let rows : List MessageRow = c.args.messages.now.rows in
    let few : AreFew c.as_slice-rows.result.now c.args.parts.now = c.if-not-are_few.ensures.0 refl in
    let order : Rises message_key c.as_slice-rows.result.now = subst (λ (l : List MessageRow). Rises message_key l) (sym c.as_slice-rows.ensures.rows) c.as_slice-rows.ensures.order in
    let entered : Represents c.enter_each.new.self [] rows [] =
    subst (λ (l : List MessageRow). Represents c.enter_each.new.self [] l []) c.as_slice-rows.ensures.rows (c.in_ok-enter_each.ensures none order (omega (arith, few))) in
    c.in_ok-bar_each.ensures rows c.args.parts.now (c.in_ok-bring_each.ensures entered rises (subst (λ (l : List MessageRow). AreFew l c.args.parts.now) c.as_slice-rows.ensures.rows few))
