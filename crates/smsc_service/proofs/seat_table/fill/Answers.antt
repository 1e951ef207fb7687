use Rattle.std.proofs.Common.{List, ap, arith, ◌∙◌}
use Rattle.sms_rows.specs.table.Table.{put}
use Rattle.smsc_service.proofs.Roomy.{one_put}
use Rattle.smsc_service.proofs.seat_table.fill.Goals as goal

pub loop-row-preserved : goal.loop-row-preserved
loop-row-preserved g c = record {
  rows = c.put_row.ensures.rows ∙ ap (λ (l : List g.row.T.Denot). put g.T.Row.key c.row-item.result l) c.loop-row.invariant.rows
      ∙ one_put g.T.Row.key c.args.rows.now c.loop-row.row-index c.row-item.result (omega (arith, c.loop-row-test.true)) c.row-item.is c.requires.order;
  roomy = c.put_row.ensures.roomy;
}
