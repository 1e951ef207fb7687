use Rattle.std.proofs.Common.{List, take, ◌∙◌, ap, subst, arith}
use Rattle.sms_centre_rows.specs.declared.messages.message.MessageRow.{MessageRow}
use Rattle.sms_centre_rows.specs.messages.Messages.{message_key}
use Rattle.sms_rows.specs.table.Table.{put}
use Rattle.sms_centre_messages.specs.message_index.MessageIndex.{Represents}
use Rattle.sms_centre_messages.proofs.message_index.Recovering.{put_next}
use Rattle.sms_centre_messages.proofs.message_index.index.MessageIndex.enter_each.Goals as goal

pub loop-row-preserved : goal.loop-row-preserved
loop-row-preserved c = λ ps h rises.
    let rows = c.args.messages.now in
    let i = c.loop-row.row-index in
    subst (λ (ms : List MessageRow). Represents c.enter_copy.new.self ms ps)
    (ap (λ (r : MessageRow). put message_key r (take i rows)) c.row-item.is
    ∙ put_next message_key i rows c.row-item.result rises (omega (arith, c.loop-row-test.true)))
    (c.in_ok-enter_copy.ensures (take i rows) ps (c.loop-row.invariant ps h rises))
