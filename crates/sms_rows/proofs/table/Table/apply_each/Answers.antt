use Rattle.std.proofs.Common.{arith, ◌≡◌, ◌∷◌, sym, ◌∙◌, ap, length}
use Rattle.std.specs.Vec.Iter.{into_iter_items}
use Rattle.sms_rows.specs.table.Table.{all_applied}
use Rattle.sms_rows.proofs.table.Tables.{length_applied}
use Rattle.sms_rows.proofs.table.Table.apply_each.Goals as goal

pub loop-change-preserved : goal.loop-change-preserved
loop-change-preserved g c =
    let key = g.T.Row.key in
    let rest = into_iter_items c.next.new.self in
    let step : into_iter_items c.loop-change.change-iterator ≡ c.in-Some.change ∷ rest = c.in-Some.ensures.steps.0 in
    let rows = ap (λ t. t.rows) c.apply.ensures in
    let capacity = ap (λ t. t.capacity) c.apply.ensures in
    let count = ap (λ l. length l) step in
    let size = ap (λ l. length l) rows in
    record {
      can_next = tt;
      is_finite = tt;
      capacity = capacity ∙ c.loop-change.invariant.capacity;
      room = omega (arith, capacity, count, size, length_applied key c.in-Some.change c.loop-change.self.rows, c.loop-change.invariant.room);
      rows = ap (λ l. all_applied key rest l) rows ∙ ap (λ l. all_applied key l c.loop-change.self.rows) (sym step) ∙ c.loop-change.invariant.rows;
    }
