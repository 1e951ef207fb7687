use Rattle.std.proofs.Common.{arith, sym, subst}
use Rattle.sms_rows.specs.table.Table.{RowsInMemory}
use Rattle.smsc_service.specs.Room.{IsRoomy}
use Rattle.smsc_service.proofs.Roomy.{few, seats_put}
use Rattle.smsc_service.proofs.seat_table.put_row.Goals as goal

pub put_ready-requires : goal.put_ready-requires
put_ready-requires g c = let most = few g.T.Row.key c.args.table.now.rows c.requires.roomy.0 c.as_slice-rows.ensures.order in let room = c.requires.roomy.1 in omega (arith, most, room)

pub returns-clause-roomy : goal.returns-clause-roomy
returns-clause-roomy g c = subst (λ (t : RowsInMemory g.row.T.Denot). IsRoomy g.T.Row.key t) (sym c.put_ready.ensures)
    (seats_put g.T.Row.key c.args.row c.args.table.now.rows c.requires.seat c.requires.roomy.0, c.requires.roomy.1)
