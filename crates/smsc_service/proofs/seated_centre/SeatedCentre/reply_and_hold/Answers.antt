use Rattle.smsc_service.specs.InSeated.{IsLeft, Reaches}
use Rattle.smsc_service.proofs.ByFate.{is_undone, not_done, was_undone}
use Rattle.smsc_service.proofs.seated_centre.SeatedCentre.reply_and_hold.Goals as goal

pub returns-in-Ok-clause-gives : goal.returns-in-Ok-clause-gives
returns-in-Ok-clause-gives g c = λ event s base is plan honest sound made.
    c.hold.ensures.gives event s base is plan (c.in-Ok.ensures event s made.centre made.seats plan) honest sound made

pub returns-in-Err-clause-gives : goal.returns-in-Err-clause-gives
returns-in-Err-clause-gives g c = λ event s base is plan honest sound made.
    let seated = c.args.self.now in
    is_undone (Reaches g.K.RowStore.state base seated) (IsLeft g.K.RowStore.state base seated) seated.machine.centre seated.seat_map s c.args.stimulus.now event c.unmade.result.fate _
    c.unmade.ensures.fate c.unmade.ensures.outs made

pub returns-in-Ok-clause-refused : goal.returns-in-Ok-clause-refused
returns-in-Ok-clause-refused g c = λ e. c.hold.ensures.refused e

pub returns-in-Ok-clause-told : goal.returns-in-Ok-clause-told
returns-in-Ok-clause-told g c = λ e. c.hold.ensures.told e

pub returns-in-Err-clause-told : goal.returns-in-Err-clause-told
returns-in-Err-clause-told g c = λ e. not_done _ _ c.unmade.ensures.fate e

pub returns-in-Err-clause-refused : goal.returns-in-Err-clause-refused
returns-in-Err-clause-refused g c = λ e. was_undone _ _ c.unmade.ensures.fate e
