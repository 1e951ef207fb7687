use Rattle.std.proofs.Common.{sym, subst}
use Rattle.sms_rows.specs.table.Table.{RowsInMemory}
use Rattle.smsc_service.specs.Room.{IsRoomy}
use Rattle.smsc_service.proofs.Roomy.{seats_without}
use Rattle.smsc_service.proofs.seat_table.remove_row.Goals as goal

pub returns-clause-roomy : goal.returns-clause-roomy
returns-clause-roomy g c = subst (λ (t : RowsInMemory g.row.T.Denot). IsRoomy g.T.Row.key t) (sym c.remove.ensures.rows)
    (seats_without g.T.Row.key c.args.key c.args.table.now.rows c.requires.0, c.requires.1)
