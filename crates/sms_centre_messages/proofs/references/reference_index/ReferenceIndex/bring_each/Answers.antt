use Rattle.std.proofs.Common.{arith}
use Rattle.sms_centre_messages.proofs.references.Recovering.{brought_next}
use Rattle.sms_centre_messages.proofs.references.reference_index.ReferenceIndex.bring_each.Goals as goal

pub loop-part-preserved : goal.loop-part-preserved
loop-part-preserved c = λ h rises few.
    brought_next c.loop-part.part-index c.args.parts.now c.part-item.result c.loop-part.self c.bring_found.new.self c.args.messages.now.rows rises (omega (arith, c.loop-part-test.true)) c.part-item.is few
    c.in_ok-bring_found.ensures (c.loop-part.invariant h rises few)
