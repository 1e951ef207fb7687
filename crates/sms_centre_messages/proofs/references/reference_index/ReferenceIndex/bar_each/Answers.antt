use Rattle.std.proofs.Common.{List, subst, arith}
use Rattle.std.proofs.lemmas.List.{take_all}
use Rattle.sms_centre_rows.specs.declared.messages.bar.BarRow.{BarRow}
use Rattle.sms_centre_messages.specs.references.ReferenceIndex.{Represents}
use Rattle.sms_centre_messages.proofs.references.Recovering.{barred_next}
use Rattle.sms_centre_messages.proofs.references.reference_index.ReferenceIndex.bar_each.Goals as goal

pub loop-bar-preserved : goal.loop-bar-preserved
loop-bar-preserved c = λ ms ps h.
    barred_next c.loop-bar.bar-index c.args.bars.now c.bar-item.result c.loop-bar.self c.bar.new.self ms ps (omega (arith, c.loop-bar-test.true)) c.bar-item.is c.in_ok-bar.ensures.barred
    (c.loop-bar.invariant ms ps h)

pub returns : goal.returns
returns c = λ ms ps h.
    subst (λ (bs : List BarRow). Represents c.loop-bar.self bs ms ps) (take_all c.loop-bar.bar-index c.args.bars.now (omega (arith, c.loop-bar-test.false))) (c.loop-bar.invariant ms ps h)
