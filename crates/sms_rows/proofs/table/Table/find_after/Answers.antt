use Rattle.std.proofs.Common.{arith, ◌≡◌, ◌-◌, zero, suc, None, sym, ◌∙◌, ap, subst, length, drop, get_or}
use Rattle.sms_rows.specs.table.Table.{row_at, change_key, change_row, newest_of, left_by}
use Rattle.sms_rows.proofs.table.Tables.{row_at_all_applied, newest_at}
use Rattle.sms_rows.proofs.table.Table.find_after.Goals as goal

pub returns-then-number : goal.returns-then-number
returns-then-number g c =
    let key = g.T.Row.key in
    let changes = c.args.changes.now in
    let rows = c.args.self.now.rows in
    let place = length changes - 1 - c.loop-i.i in
    let change = c.index-changes-changes.result in
    let q : length changes - c.loop-i.i ≡ suc place = omega arith in
    let later = subst (λ n. newest_of key c.args.key (drop n changes) ≡ None) q c.loop-i.invariant in
    let k = ap (λ x. change_key key x) c.index-changes-changes.is in
    let same : change_key key (get_or changes place change) ≡ c.args.key = omega (arith, k, c.key.ensures, c.number.ensures, c.number-in-loop-i.ensures, c.if-number.true) in
    let newest = newest_at key c.args.key place changes change (omega arith) later same in
    c.row.ensures
    ∙ ap (λ x. change_row x) c.index-changes-changes.is
    ∙ sym (row_at_all_applied key c.args.key changes rows ∙ ap (λ o. left_by o (row_at key c.args.key rows)) newest)

pub returns : goal.returns
returns g c =
    let key = g.T.Row.key in
    let changes = c.args.changes.now in
    let rows = c.args.self.now.rows in
    let q : length changes - c.loop-i.i ≡ zero = omega arith in
    let none = subst (λ n. newest_of key c.args.key (drop n changes) ≡ None) q c.loop-i.invariant in
    c.find.ensures
    ∙ sym (row_at_all_applied key c.args.key changes rows ∙ ap (λ o. left_by o (row_at key c.args.key rows)) none)
