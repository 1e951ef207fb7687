use Rattle.std.proofs.Common.{◌∙◌, ap, refl}
use Rattle.sms_centre.specs.declared.plans.event_outcome.Outputs.{Outputs as OutputsOf}
use Rattle.smsc_service.specs.InSeated.{IsLeft, Reaches}
use Rattle.smsc_service.specs.Seats.{Seats}
use Rattle.smsc_service.specs.Serving.{followed_by}
use Rattle.smsc_service.proofs.ByFate.{is_done, is_undone, not_done, was_undone}
use Rattle.smsc_service.proofs.seated_centre.SeatedCentre.hold.Goals as goal

pub returns-in-Ok-clause-gives : goal.returns-in-Ok-clause-gives
returns-in-Ok-clause-gives g c = λ event s base is plan replies honest sound made.
    let seated = record c.args.self.now { machine = c.hold.new.self; seat_map = c.follow.new.seat_map } in
    let held = c.in-Ok.ensures.outcome event s.core base is made.centre plan made.rows in
    is_done (Reaches g.K.RowStore.state base seated) (IsLeft g.K.RowStore.state base seated) c.hold.new.self.centre c.follow.new.seat_map s c.args.stimulus.now event _ _
    refl (c.from_vec.ensures ∙ replies) held.rows held.centre (c.follow.ensures ∙ ap (λ (x : Seats). followed_by c.args.stimulus.now x) made.seats)

pub returns-in-Err-clause-gives : goal.returns-in-Err-clause-gives
returns-in-Err-clause-gives g c = λ event s base is plan replies honest sound made.
    let seated = record c.args.self.now { machine = c.hold.new.self } in
    let held = c.in-Err.ensures.outcome event s.core base is made.centre plan made.rows in
    is_undone (Reaches g.K.RowStore.state base seated) (IsLeft g.K.RowStore.state base seated) c.hold.new.self.centre c.args.self.now.seat_map s c.args.stimulus.now event c.unmade.result.fate _
    c.unmade.ensures.fate c.unmade.ensures.outs (record { rows = held.rows; centre = held.centre; seats = made.seats })

pub returns-in-Ok-clause-told : goal.returns-in-Ok-clause-told
returns-in-Ok-clause-told g c = λ e. ap (λ (o : OutputsOf). o.answer) c.outputs.ensures

pub returns-in-Err-clause-told : goal.returns-in-Err-clause-told
returns-in-Err-clause-told g c = λ e. not_done _ _ c.unmade.ensures.fate e

pub returns-in-Err-clause-refused : goal.returns-in-Err-clause-refused
returns-in-Err-clause-refused g c = λ e. was_undone _ _ c.unmade.ensures.fate e
