use Rattle.std.proofs.Common.{◌≡◌, ℕ, Some, None, OnOk, sym, ◌∙◌, subst}
use Rattle.sms_centre_rows.specs.declared.messages.message.MessageRow.{MessageRow}
use Rattle.sms_centre.specs.Archiving.{parts_in}
use Rattle.sms_centre.specs.state.CentreState.{CentreStateOf, Represents as StateRepresents}
use Rattle.sms_centre.proofs.archiving.take.Goals as goal

pub returns-in-Some-clause-took : goal.returns-in-Some-clause-took
returns-in-Some-clause-took g c = λ core m stands e.
    let s : CentreStateOf = record { setup = c.state.inside.setup; moment = c.state.inside.moment; messages = c.state.inside.messages; reference_index = c.state.inside.reference_index; queues = c.state.inside.queues; reports = c.state.inside.reports; log = c.state.inside.log; sessions = c.state.inside.sessions } in
    let was : StateRepresents core s = subst (λ (x : CentreStateOf). StateRepresents core x) (sym c.state.view_is) stands in
    let found : Some c.in-Some.message ≡ Some m = sym c.in-Some.is ∙ c.in_ok-found.ensures core.rows.messages core.rows.parts was.centre.messages_are ∙ e in
    let same : c.in-Some.message ≡ m = cc in
    let parts = c.count_parts-parts.ensures core.rows.messages core.rows.parts was.centre.messages_are in
    subst (λ (x : MessageRow). OnOk c.take_found.result (g.A.Archive.took c.take_found.new.archive x (parts_in core.rows c.args.id))) same
    (subst (λ (n : ℕ). OnOk c.take_found.result (g.A.Archive.took c.take_found.new.archive c.in-Some.message n)) parts c.take_found.ensures.took)

pub returns-in-None-clause-took : goal.returns-in-None-clause-took
returns-in-None-clause-took g c = λ core m stands e.
    let s : CentreStateOf = record { setup = c.state.inside.setup; moment = c.state.inside.moment; messages = c.state.inside.messages; reference_index = c.state.inside.reference_index; queues = c.state.inside.queues; reports = c.state.inside.reports; log = c.state.inside.log; sessions = c.state.inside.sessions } in
    let was : StateRepresents core s = subst (λ (x : CentreStateOf). StateRepresents core x) (sym c.state.view_is) stands in
    let found : None ≡ Some m = sym c.in-None.is ∙ c.in_ok-found.ensures core.rows.messages core.rows.parts was.centre.messages_are ∙ e in
    absurd cc
