use Rattle.std.proofs.Common.{sym, ◌∙◌, subst}
use Rattle.sms_centre.specs.declared.barring.NewBars.{NewBars}
use Rattle.sms_centre.specs.state.CentreState.{CentreStateOf, Represents as StateRepresents}
use Rattle.sms_centre.proofs.Barred.{all_are, starts}
use Rattle.sms_centre.proofs.barring.bars_of.Goals as goal

pub returns-in-Ok : goal.returns-in-Ok
returns-in-Ok c = λ core stands.
    let s : CentreStateOf = record { setup = c.state.inside.setup; moment = c.state.inside.moment; messages = c.state.inside.messages; reference_index = c.state.inside.reference_index; queues = c.state.inside.queues; reports = c.state.inside.reports; log = c.state.inside.log; sessions = c.state.inside.sessions } in
    let was : StateRepresents core s = subst (λ (x : CentreStateOf). StateRepresents core x) (sym c.state.view_is) stands in
    let b : NewBars = record { changes = c.new-changes.result; next = c.next_place-next.result } in
    c.changes_of.ensures
    ∙ all_are core.rows.bars c.args.claims.now c.keep_each.new.bars
    (c.in-Ok.ensures core stands (starts core.rows.bars c.args.claims.now b was.centre.sound.rows.bars c.new-changes.ensures.items
    (λ n e. c.next_place-next.ensures core.rows.bars core.rows.messages core.rows.parts was.reference_index n e)))
