use Rattle.std.proofs.Common.{arith, refl, sym, ◌∙◌, ap, subst}
use Rattle.sms_rows.specs.table.Table.{IsAt, Rises, row_at, without}
use Rattle.sms_rows.proofs.table.Tables.{rises_without}
use Rattle.sms_rows.proofs.table.Places.{none_at, without_at, without_gap}
use Rattle.sms_rows.proofs.table.Ring.{left_at, taken_at}
use Rattle.sms_rows.proofs.table.rolling.RollingTable.remove.Goals as goal

pub invariant_of-self : goal.invariant_of-self
invariant_of-self g c =
    let key = g.T.Row.key in
    let rows = ap (λ k. k.rows) c.self.view_is in
    let at = subst (λ l. IsAt key c.args.key c.in-Ok.place l) (sym rows) c.in-Ok.ensures in
    let left = left_at key c.args.key c.in-Ok.place c.self.inside.items.items c.remove.new.self.items c.remove.result (λ d l. c.remove.ensures.succeeds d (omega (arith, l))) at c.remove.ensures.items in
    subst (λ l. Rises key l) (without_at key c.args.key c.in-Ok.place c.self.inside.items.items c.self.invariant at ∙ sym left)
    (rises_without key c.args.key c.self.inside.items.items c.self.invariant)

pub returns-in-Ok-clause-row : goal.returns-in-Ok-clause-row
returns-in-Ok-clause-row g c =
    let key = g.T.Row.key in
    let rows = ap (λ k. k.rows) c.self.view_is in
    let at = subst (λ l. IsAt key c.args.key c.in-Ok.place l) (sym rows) c.in-Ok.ensures in
    taken_at key c.args.key c.in-Ok.place c.self.inside.items.items c.remove.result (λ d l. c.remove.ensures.succeeds d (omega (arith, l))) at
    ∙ ap (λ l. row_at key c.args.key l) rows

pub returns-in-Ok-clause-rows : goal.returns-in-Ok-clause-rows
returns-in-Ok-clause-rows g c =
    let key = g.T.Row.key in
    let rows = ap (λ k. k.rows) c.self.view_is in
    let at = subst (λ l. IsAt key c.args.key c.in-Ok.place l) (sym rows) c.in-Ok.ensures in
    let kept = left_at key c.args.key c.in-Ok.place c.self.inside.items.items c.remove.new.self.items c.remove.result (λ d l. c.remove.ensures.succeeds d (omega (arith, l))) at c.remove.ensures.items in
    let left = kept ∙ sym (without_at key c.args.key c.in-Ok.place c.self.inside.items.items c.self.invariant at) ∙ ap (λ l. without key c.args.key l) rows in
    let size = c.remove.ensures.capacity ∙ ap (λ k. k.capacity) c.self.view_is in
    rw (left, size) refl

pub returns-in-Err-clause-row : goal.returns-in-Err-clause-row
returns-in-Err-clause-row g c = sym (none_at g.T.Row.key c.args.key c.in-Err.field-0 c.args.self.now.rows c.in-Err.ensures)

pub returns-in-Err-clause-rows : goal.returns-in-Err-clause-rows
returns-in-Err-clause-rows g c =
    sym (ap (λ l. record c.args.self.now { rows = l }) (without_gap g.T.Row.key c.args.key c.in-Err.field-0 c.args.self.now.rows c.in-Err.ensures))
