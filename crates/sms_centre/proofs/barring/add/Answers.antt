use Rattle.std.proofs.Common.{◌≡◌, ◌++◌, append-nil, Option, Some, None, OnOk, sym, ◌∙◌, ap, subst}
use Rattle.sms_centre_rows.specs.declared.messages.message.MessageRow.{MessageRow}
use Rattle.sms_centre_rows.specs.messages.Messages.{message_at}
use Rattle.sms_centre_spec.specs.forgetting.Forget.{claims_at}
use Rattle.sms_centre.specs.state.CentreState.{CentreStateOf, Represents as StateRepresents}
use Rattle.sms_centre.proofs.barring.add.Goals as goal

pub returns-in-Some : goal.returns-in-Some
returns-in-Some c = λ core stands.
    let s : CentreStateOf = record { setup = c.state.inside.setup; moment = c.state.inside.moment; messages = c.state.inside.messages; reference_index = c.state.inside.reference_index; queues = c.state.inside.queues; reports = c.state.inside.reports; log = c.state.inside.log; sessions = c.state.inside.sessions } in
    let was : StateRepresents core s = subst (λ (x : CentreStateOf). StateRepresents core x) (sym c.state.view_is) stands in
    let e : message_at c.args.id core.rows.messages ≡ Some c.in-Some.message = sym (c.in_ok-found.ensures core.rows.messages core.rows.parts was.centre.messages_are) ∙ c.in-Some.is in
    subst (λ (o : Option MessageRow). OnOk c.add_found.result (c.add_found.new.claims.items ≡ c.args.claims.now.items ++ claims_at o core.rows.parts)) (sym e) (c.add_found.ensures core stands)

pub returns-in-None : goal.returns-in-None
returns-in-None c = λ core stands.
    let s : CentreStateOf = record { setup = c.state.inside.setup; moment = c.state.inside.moment; messages = c.state.inside.messages; reference_index = c.state.inside.reference_index; queues = c.state.inside.queues; reports = c.state.inside.reports; log = c.state.inside.log; sessions = c.state.inside.sessions } in
    let was : StateRepresents core s = subst (λ (x : CentreStateOf). StateRepresents core x) (sym c.state.view_is) stands in
    let e : message_at c.args.id core.rows.messages ≡ None = sym (c.in_ok-found.ensures core.rows.messages core.rows.parts was.centre.messages_are) ∙ c.in-None.is in
    sym (append-nil c.args.claims.now.items) ∙ ap (λ (o : Option MessageRow). c.args.claims.now.items ++ claims_at o core.rows.parts) (sym e)
