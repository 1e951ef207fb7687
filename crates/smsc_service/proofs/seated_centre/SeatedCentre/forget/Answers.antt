use Rattle.std.proofs.Common.{◌∙◌, refl, sym, true≢false}
use Rattle.smsc_service.specs.InSeated.{IsLeft, Reaches}
use Rattle.smsc_service.proofs.ByFate.{is_kept, not_done, was_undone}
use Rattle.smsc_service.proofs.seated_centre.SeatedCentre.forget.Goals as goal

pub returns-then-is_late-clause-gives : goal.returns-then-is_late-clause-gives
returns-then-is_late-clause-gives g c = λ s base honest sound made.
    let seated = c.args.self.now in
    is_kept (Reaches g.K.RowStore.state base seated) (IsLeft g.K.RowStore.state base seated) seated.machine.centre seated.seat_map s c.args.stimulus.now c.args.before c.args.from c.args.most
    c.unmade.result.fate _ c.unmade.ensures.fate c.unmade.ensures.outs made

pub returns-in-Err-clause-gives : goal.returns-in-Err-clause-gives
returns-in-Err-clause-gives g c = λ s base honest sound made.
    let seated = c.args.self.now in
    is_kept (Reaches g.K.RowStore.state base seated) (IsLeft g.K.RowStore.state base seated) seated.machine.centre seated.seat_map s c.args.stimulus.now c.args.before c.args.from c.args.most
    c.unmade-in-Err.result.fate _ c.unmade-in-Err.ensures.fate c.unmade-in-Err.ensures.outs made

pub returns-in-Ok-clause-gives : goal.returns-in-Ok-clause-gives
returns-in-Ok-clause-gives g c = λ s base honest sound made.
    c.let_go.ensures.gives c.args.before c.args.from c.args.most s base (c.in-Ok.ensures.outcome s.core made.centre) honest sound made

pub returns-then-is_late-clause-refused : goal.returns-then-is_late-clause-refused
returns-then-is_late-clause-refused g c = λ e. was_undone _ _ c.unmade.ensures.fate e

pub returns-in-Err-clause-refused : goal.returns-in-Err-clause-refused
returns-in-Err-clause-refused g c = λ e. was_undone _ _ c.unmade-in-Err.ensures.fate e

pub returns-in-Ok-clause-refused : goal.returns-in-Ok-clause-refused
returns-in-Ok-clause-refused g c = λ e. c.let_go.ensures.refused e

pub returns-then-is_late-clause-archived : goal.returns-then-is_late-clause-archived
returns-then-is_late-clause-archived g c = λ s base honest sound made e. not_done _ _ c.unmade.ensures.fate e

pub returns-in-Err-clause-archived : goal.returns-in-Err-clause-archived
returns-in-Err-clause-archived g c = λ s base honest sound made e. not_done _ _ c.unmade-in-Err.ensures.fate e

pub returns-in-Ok-clause-archived : goal.returns-in-Ok-clause-archived
returns-in-Ok-clause-archived g c = λ s base honest sound made e. c.in-Ok.ensures.archived s.core made.centre

pub returns-then-is_late-clause-late : goal.returns-then-is_late-clause-late
returns-then-is_late-clause-late g c = λ e. refl

pub returns-in-Ok-clause-late : goal.returns-in-Ok-clause-late
returns-in-Ok-clause-late g c = λ e. absurd (true≢false (sym e ∙ c.if-is_late.false))

pub returns-in-Err-clause-late : goal.returns-in-Err-clause-late
returns-in-Err-clause-late g c = λ e. refl
