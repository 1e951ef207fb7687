use Rattle.std.proofs.Common.{◌∙◌, refl, sym, subst, true≢false}
use Rattle.sms_centre.specs.Enrolling.{enrolled}
use Rattle.sms_centre.specs.state.CentreState.{Represents, CentreStateOf}
use Rattle.sms_intake.specs.declared.submission.CentreAccount.{CentreAccount}
use Rattle.smsc_service.specs.InSeated.{IsLeft, Reaches}
use Rattle.smsc_service.proofs.ByFate.{has_come, none_came, was_done, was_undone}
use Rattle.smsc_service.proofs.seated_centre.SeatedCentre.enrol.Goals as goal

pub returns-then-is_late-clause-gives : goal.returns-then-is_late-clause-gives
returns-then-is_late-clause-gives g c = λ s base honest sound made.
    let seated = c.args.self.now in
    none_came (Reaches g.K.RowStore.state base seated) (IsLeft g.K.RowStore.state base seated) seated.machine.centre seated.seat_map s c.args.stimulus.now c.args.account.now
    c.unmade.result.fate _ c.unmade.ensures.fate c.unmade.ensures.outs made

pub returns-in-Ok-clause-gives : goal.returns-in-Ok-clause-gives
returns-in-Ok-clause-gives g c = λ s base honest sound made.
    let before = c.args.self.now in
    let seated = record before { machine = record before.machine { centre = c.enrol.new.self } } in
    has_come (Reaches g.K.RowStore.state base seated) (IsLeft g.K.RowStore.state base seated) seated.machine.centre seated.seat_map s c.args.stimulus.now c.args.account.now
    _ _ refl c.none.ensures made.rows
    (subst (λ (a : CentreAccount). Represents (enrolled a s.core) c.enrol.new.self) c.get.ensures (c.in-Ok.ensures.centre_state s.core made.centre)) made.seats

pub returns-in-Err-clause-gives : goal.returns-in-Err-clause-gives
returns-in-Err-clause-gives g c = λ s base honest sound made.
    let before = c.args.self.now in
    let seated = record before { machine = record before.machine { centre = c.enrol.new.self } } in
    none_came (Reaches g.K.RowStore.state base seated) (IsLeft g.K.RowStore.state base seated) seated.machine.centre seated.seat_map s c.args.stimulus.now c.args.account.now
    c.unmade-in-Err.result.fate _ c.unmade-in-Err.ensures.fate c.unmade-in-Err.ensures.outs
    (record { rows = made.rows; centre = subst (λ (x : CentreStateOf). Represents s.core x) (sym c.in-Err.ensures.same) made.centre; seats = made.seats })

pub returns-then-is_late-clause-refused : goal.returns-then-is_late-clause-refused
returns-then-is_late-clause-refused g c = λ e. was_undone _ _ c.unmade.ensures.fate e

pub returns-in-Ok-clause-refused : goal.returns-in-Ok-clause-refused
returns-in-Ok-clause-refused g c = λ e. was_done _ _ refl e

pub returns-in-Err-clause-refused : goal.returns-in-Err-clause-refused
returns-in-Err-clause-refused g c = λ e. was_undone _ _ c.unmade-in-Err.ensures.fate e

pub returns-then-is_late-clause-late : goal.returns-then-is_late-clause-late
returns-then-is_late-clause-late g c = λ e. refl

pub returns-in-Ok-clause-late : goal.returns-in-Ok-clause-late
returns-in-Ok-clause-late g c = λ e. absurd (true≢false (sym e ∙ c.if-is_late.false))

pub returns-in-Err-clause-late : goal.returns-in-Err-clause-late
returns-in-Err-clause-late g c = λ e. absurd (true≢false (sym e ∙ c.if-is_late.false))
