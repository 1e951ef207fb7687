use Rattle.std.proofs.Common.{arith}
use Rattle.sms_centre_messages.proofs.references.Recovering.{entered_next}
use Rattle.sms_centre_messages.proofs.references.reference_index.ReferenceIndex.enter_each.Goals as goal

pub loop-row-preserved : goal.loop-row-preserved
loop-row-preserved c = λ h rises few.
    entered_next c.loop-row.row-index c.args.rows.now c.row-item.result c.loop-row.self c.enter.new.self rises (omega (arith, c.loop-row-test.true)) c.row-item.is few
    c.in_ok-enter.ensures.holds (c.loop-row.invariant h rises few)
