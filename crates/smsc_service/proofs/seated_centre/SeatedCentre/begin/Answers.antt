use Rattle.std.proofs.Common.{◌∙◌, refl, sym, true≢false}
use Rattle.smsc_service.specs.InSeated.{IsLeft, Reaches}
use Rattle.smsc_service.proofs.ByFate.{is_undone, not_done, was_undone}
use Rattle.smsc_service.proofs.seated_centre.SeatedCentre.begin.Goals as goal

pub returns-then-is_late-clause-gives : goal.returns-then-is_late-clause-gives
returns-then-is_late-clause-gives g c = λ s base honest sound made.
    let seated = c.args.self.now in
    is_undone (Reaches g.K.RowStore.state base seated) (IsLeft g.K.RowStore.state base seated) seated.machine.centre seated.seat_map s c.args.stimulus.now c.args.event.now c.unmade.result.fate _
    c.unmade.ensures.fate c.unmade.ensures.outs made

pub returns-then-is_late-clause-refused : goal.returns-then-is_late-clause-refused
returns-then-is_late-clause-refused g c = λ s base honest sound made e. was_undone _ _ c.unmade.ensures.fate e

pub returns-then-is_late-clause-late : goal.returns-then-is_late-clause-late
returns-then-is_late-clause-late g c = λ e. (c.unmade.ensures.fate, refl)

pub returns-clause-gives : goal.returns-clause-gives
returns-clause-gives g c = c.happen.ensures.gives

pub returns-then-is_late-clause-told : goal.returns-then-is_late-clause-told
returns-then-is_late-clause-told g c = λ s base honest sound made e. not_done _ _ c.unmade.ensures.fate e

pub returns-clause-told : goal.returns-clause-told
returns-clause-told g c = c.happen.ensures.told

pub returns-clause-refused : goal.returns-clause-refused
returns-clause-refused g c = c.happen.ensures.refused

pub returns-clause-late : goal.returns-clause-late
returns-clause-late g c = λ e. absurd (true≢false (sym e ∙ c.if-is_late.false))
