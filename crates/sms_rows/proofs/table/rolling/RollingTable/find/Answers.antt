use Rattle.std.proofs.Common.{arith, Some, sym, ◌∙◌, ap, length, get_or}
use Rattle.sms_rows.proofs.table.Places.{at_inside, found_at, none_at}
use Rattle.sms_rows.proofs.table.rolling.RollingTable.find.Goals as goal

pub index-requires : goal.index-requires
index-requires g c =
    let rows = ap (λ k. k.rows) c.self.view_is in
    omega (arith, ap (λ l. length l) rows, at_inside g.T.Row.key c.args.key c.in-Ok.place c.args.self.now.rows c.in-Ok.ensures)

pub returns-in-Ok : goal.returns-in-Ok
returns-in-Ok g c =
    let rows = ap (λ k. k.rows) c.self.view_is in
    ap (λ r. Some r) (c.index.ensures ∙ ap (λ l. get_or l c.in-Ok.place c.index.result.now) rows)
    ∙ sym (found_at g.T.Row.key c.args.key c.in-Ok.place c.args.self.now.rows c.index.result.now c.in-Ok.ensures)

pub returns-in-Err : goal.returns-in-Err
returns-in-Err g c = sym (none_at g.T.Row.key c.args.key c.in-Err.field-0 c.args.self.now.rows c.in-Err.ensures)
