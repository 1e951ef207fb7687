use Rattle.std.proofs.Common.{◌≡◌, ◌+◌, suc, drop, sym, ◌∙◌, ap, arith}
use Rattle.sms_rows.specs.table.Table.{is_there}
use Rattle.sms_rows.proofs.table.Removals.{none_left, range_on}
use Rattle.sms_rows.proofs.table.range.range_of.Goals as goal

pub loop-row-init : goal.loop-row-init
loop-row-init g c = λ n out none. none

pub loop-row-preserved : goal.loop-row-preserved
loop-row-preserved g c = λ n out none.
    let next : c.loop-row.row-index + 1 ≡ suc c.loop-row.row-index = omega arith in
    range_on g.C.Row.key n c.loop-row.row-index c.loop-row.low c.loop-row.high c.lower-low.result c.higher-high.result c.args.rows.now c.row-item.result c.loop-row-test.true c.row-item.is
    c.lower-low.ensures.one (omega (arith, c.lower-low.ensures.other, c.number-number.ensures, c.key.ensures)) c.higher-high.ensures.one (omega (arith, c.higher-high.ensures.other, c.number-number.ensures, c.key.ensures))
    (c.loop-row.invariant n) out (ap (λ k. is_there g.C.Row.key n (drop k c.args.rows.now)) (sym next) ∙ none)

pub returns : goal.returns
returns g c = λ n out. c.loop-row.invariant n out (none_left g.C.Row.key n c.loop-row.row-index c.args.rows.now (omega (arith, c.loop-row-test.false)))
