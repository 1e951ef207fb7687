use Rattle.std.proofs.Common.{refl}
use Rattle.smsc_service.specs.InSeated.{IsLeft, Reaches}
use Rattle.smsc_service.proofs.ByFate.{is_forgotten, is_kept, was_undone}
use Rattle.smsc_service.proofs.seated_centre.SeatedCentre.let_go.Goals as goal

pub returns-in-Ok-clause-gives : goal.returns-in-Ok-clause-gives
returns-in-Ok-clause-gives g c = λ before from most s base plan honest sound made.
    let seated = record c.args.self.now { machine = c.hold.new.self } in
    let held = c.in-Ok.ensures.forgotten before from most s.core base made.centre plan made.rows in
    is_forgotten (Reaches g.K.RowStore.state base seated) (IsLeft g.K.RowStore.state base seated) c.hold.new.self.centre c.args.self.now.seat_map s c.args.stimulus.now before from most _ _
    refl c.none.ensures held.rows held.centre made.seats

pub returns-in-Err-clause-gives : goal.returns-in-Err-clause-gives
returns-in-Err-clause-gives g c = λ before from most s base plan honest sound made.
    let seated = record c.args.self.now { machine = c.hold.new.self } in
    let held = c.in-Err.ensures.forgotten before from most s.core base made.centre plan made.rows in
    is_kept (Reaches g.K.RowStore.state base seated) (IsLeft g.K.RowStore.state base seated) c.hold.new.self.centre c.args.self.now.seat_map s c.args.stimulus.now before from most c.unmade.result.fate _
    c.unmade.ensures.fate c.unmade.ensures.outs (record { rows = held.rows; centre = held.centre; seats = made.seats })

pub returns-in-Err-clause-refused : goal.returns-in-Err-clause-refused
returns-in-Err-clause-refused g c = λ e. was_undone _ _ c.unmade.ensures.fate e
