use Rattle.std.proofs.Common.{arith, ap, length, sym, ◌∙◌}
use Rattle.sms_rows.specs.table.Table.{RowsInMemory}
use Rattle.sms_rows.proofs.table.Tables.{length_without}
use Rattle.sms_store_memory.proofs.revising.AsPut.{put_back, left_alone}
use Rattle.sms_store_memory.proofs.revising.amend.Goals as goal

pub put_ready-requires : goal.put_ready-requires
put_ready-requires g c =
    let rows = ap (λ (t : RowsInMemory _). length t.rows) c.remove.ensures.rows in
    let capacity = ap (λ (t : RowsInMemory _). t.capacity) c.remove.ensures.rows in
    omega (arith, rows, capacity, length_without g.T.Row.key c.args.key c.args.table.now.rows, c.requires)

pub returns-in-Some : goal.returns-in-Some
returns-in-Some g c =
    put_back g.T.Row.key g.T.Reaching.reaching g.met.T.Reaching.keeps c.args.key c.args.progress c.args.table.now _ c.remove.ensures.rows c.as_slice-rows.ensures.order _ c.in-Some.row _ (sym c.remove.ensures.row ∙ c.in-Some.is) c.reach.ensures c.put_ready.ensures

pub returns-in-None : goal.returns-in-None
returns-in-None g c =
    left_alone g.T.Row.key g.T.Reaching.reaching g.met.T.Reaching.keeps c.args.key c.args.progress c.args.table.now _ c.remove.ensures.rows c.as_slice-rows.ensures.order (sym c.remove.ensures.row ∙ c.in-None.is)
