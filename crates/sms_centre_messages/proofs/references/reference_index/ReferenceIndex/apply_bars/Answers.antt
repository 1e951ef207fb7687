use Rattle.std.proofs.Common.{◌-◌, ◌+◌, List, length, subst, arith}
use Rattle.std.proofs.lemmas.List.{take_all}
use Rattle.sms_rows.specs.declared.table.change.Change.{Change}
use Rattle.sms_centre_rows.specs.declared.messages.bar.BarRow.{BarRow}
use Rattle.sms_centre_messages.specs.references.ReferenceIndex.{Barred}
use Rattle.sms_centre_messages.proofs.references.Adopted.{barred_first, barred_on, less_bars}
use Rattle.sms_centre_messages.proofs.references.reference_index.ReferenceIndex.apply_bars.Goals as goal

pub loop-change-init : goal.loop-change-init
loop-change-init c = (less_bars (length c.args.bars.now) (length c.args.bars.now - 0) c.args.self.now (omega arith) c.requires, barred_first c.args.self.now)

pub apply_bar-requires : goal.apply_bar-requires
apply_bar-requires c = less_bars (length c.args.bars.now - c.loop-change.change-index) 1 c.loop-change.self (omega (arith, c.loop-change-test.true)) c.loop-change.invariant.0

pub loop-change-preserved : goal.loop-change-preserved
loop-change-preserved c =
    let count = length c.args.bars.now - (c.loop-change.change-index + 1) in (
      c.apply_bar.ensures.room count
          (less_bars (length c.args.bars.now - c.loop-change.change-index) (count + 1) c.loop-change.self (omega (arith, c.loop-change-test.true)) c.loop-change.invariant.0),
      barred_on c.loop-change.change-index c.args.bars.now c.change-item.result c.args.self.now c.loop-change.self c.apply_bar.new.self (omega (arith, c.loop-change-test.true)) c.change-item.is
          c.loop-change.invariant.1 c.apply_bar.ensures.barred,
    )

pub returns : goal.returns
returns c =
    subst (λ (cs : List (Change BarRow)). Barred cs c.args.self.now c.loop-change.self) (take_all c.loop-change.change-index c.args.bars.now (omega (arith, c.loop-change-test.false)))
    c.loop-change.invariant.1
