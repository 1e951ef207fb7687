use Rattle.std.proofs.Common.{◌≡◌, ◌+◌, suc, sym, ◌∙◌, ap, drop, arith}
use Rattle.std.specs.Prelude.{is_some}
use Rattle.sms_rows.specs.table.Table.{row_at}
use Rattle.sms_rows.proofs.table.Removals.{found_by, none_left, passed_by}
use Rattle.sms_rows.proofs.table.range.has_key.Goals as goal

pub loop-row-preserved : goal.loop-row-preserved
loop-row-preserved g c =
    let key = g.C.Row.key in
    let next : suc c.loop-row.row-index ≡ c.loop-row.row-index + 1 = omega arith in
    ap (λ n. row_at key c.args.key (drop n c.args.rows.now)) (sym next)
    ∙ sym (passed_by key c.args.key c.loop-row.row-index c.args.rows.now c.row-item.result c.loop-row-test.true c.row-item.is (λ e. absurd (omega (arith, e, c.key.ensures, c.number-in-loop-row.ensures, c.number.ensures, c.if-number.false))))
    ∙ c.loop-row.invariant

pub returns-then-number : goal.returns-then-number
returns-then-number g c =
    let key = g.C.Row.key in
    sym (ap (λ o. is_some o) (sym c.loop-row.invariant)
    ∙ found_by key c.args.key c.loop-row.row-index c.args.rows.now c.row-item.result c.loop-row-test.true c.row-item.is (omega (arith, c.key.ensures, c.number-in-loop-row.ensures, c.number.ensures, c.if-number.true)))

pub returns : goal.returns
returns g c =
    let key = g.C.Row.key in
    sym (ap (λ o. is_some o) (sym c.loop-row.invariant)
    ∙ none_left key c.args.key c.loop-row.row-index c.args.rows.now (omega (arith, c.loop-row-test.false)))
