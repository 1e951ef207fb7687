use Rattle.std.proofs.Common.{arith, sym, ◌∙◌, ap, subst, length}
use Rattle.sms_rows.specs.table.Table.{IsAt, IsGap, Rises, put}
use Rattle.sms_rows.proofs.table.Tables.{rises_put}
use Rattle.sms_rows.proofs.table.Places.{at_inside, gap_inside, put_at, put_gap}
use Rattle.sms_rows.proofs.table.rolling.RollingTable.put.Goals as goal

pub index_mut-requires : goal.index_mut-requires
index_mut-requires g c =
    let rows = ap (λ k. k.rows) c.self.view_is in
    omega (arith, ap (λ l. length l) rows, at_inside g.T.Row.key c.key.result c.in-Ok.place c.args.self.now.rows c.in-Ok.ensures)

pub insert-requires : goal.insert-requires
insert-requires g c =
    let rows = ap (λ k. k.rows) c.self.view_is in
    omega (arith, ap (λ l. length l) rows, gap_inside g.T.Row.key c.key.result c.in-Err.place c.args.self.now.rows c.in-Err.ensures)

pub invariant_of-self : goal.invariant_of-self
invariant_of-self g c =
    let rows = ap (λ k. k.rows) c.self.view_is in
    let at = subst (λ l. IsAt g.T.Row.key c.key.result c.in-Ok.place l) (sym rows) c.in-Ok.ensures in
    let here = subst (λ n. IsAt g.T.Row.key n c.in-Ok.place c.self.inside.items.items) c.key.ensures at in
    subst (λ l. Rises g.T.Row.key l) (put_at g.T.Row.key c.in-Ok.place c.args.row c.self.inside.items.items c.self.invariant here)
    (rises_put g.T.Row.key c.args.row c.self.inside.items.items c.self.invariant)

pub returns-in-Ok-clause-ok : goal.returns-in-Ok-clause-ok
returns-in-Ok-clause-ok g c =
    let rows = ap (λ k. k.rows) c.self.view_is in
    let at = subst (λ l. IsAt g.T.Row.key c.key.result c.in-Ok.place l) (sym rows) c.in-Ok.ensures in
    let here = subst (λ n. IsAt g.T.Row.key n c.in-Ok.place c.self.inside.items.items) c.key.ensures at in
    sym (put_at g.T.Row.key c.in-Ok.place c.args.row c.self.inside.items.items c.self.invariant here)
    ∙ ap (λ l. put g.T.Row.key c.args.row l) rows

pub invariant_of-self-in-Continue-1 : goal.invariant_of-self-in-Continue-1
invariant_of-self-in-Continue-1 g c =
    let rows = ap (λ k. k.rows) c.self.view_is in
    let gap = subst (λ l. IsGap g.T.Row.key c.key.result c.in-Err.place l) (sym rows) c.in-Err.ensures in
    let here = subst (λ n. IsGap g.T.Row.key n c.in-Err.place c.self.inside.items.items) c.key.ensures gap in
    subst (λ l. Rises g.T.Row.key l) (put_gap g.T.Row.key c.in-Err.place c.args.row c.self.inside.items.items here ∙ sym c.in_ok-insert-in-Err.ensures.items)
    (rises_put g.T.Row.key c.args.row c.self.inside.items.items c.self.invariant)

pub returns-in_ok-insert-in-Err-clause-ok : goal.returns-in_ok-insert-in-Err-clause-ok
returns-in_ok-insert-in-Err-clause-ok g c =
    let rows = ap (λ k. k.rows) c.self.view_is in
    let gap = subst (λ l. IsGap g.T.Row.key c.key.result c.in-Err.place l) (sym rows) c.in-Err.ensures in
    let here = subst (λ n. IsGap g.T.Row.key n c.in-Err.place c.self.inside.items.items) c.key.ensures gap in
    c.in_ok-insert-in-Err.ensures.items
    ∙ sym (put_gap g.T.Row.key c.in-Err.place c.args.row c.self.inside.items.items here)
    ∙ ap (λ l. put g.T.Row.key c.args.row l) rows
