use Rattle.std.proofs.Common.{◌≡◌, ◌++◌, append-nil, Option, Some, None, OnOk, sym, ◌∙◌, ap, subst}
use Rattle.std.specs.Prelude.{slice_get}
use Rattle.sms_centre_rows.specs.declared.messages.message.MessageRow.{MessageRow}
use Rattle.sms_centre_spec.specs.forgetting.Forget.{may_go_now}
use Rattle.sms_centre.specs.Forgetting.{gone_at}
use Rattle.sms_centre.specs.state.CentreState.{CentreStateOf, Represents as StateRepresents}
use Rattle.sms_centre.proofs.MayGo.{got_found}
use Rattle.sms_centre.proofs.forgetting.note.Goals as goal

pub returns-in-Some : goal.returns-in-Some
returns-in-Some c = λ core represents stands.
    let s : CentreStateOf = record { setup = c.state.inside.setup; moment = c.state.inside.moment; messages = c.state.inside.messages; reference_index = c.state.inside.reference_index; queues = c.state.inside.queues; reports = c.state.inside.reports; log = c.state.inside.log; sessions = c.state.inside.sessions } in
    let was : StateRepresents core s = subst (λ (x : CentreStateOf). StateRepresents core x) (sym c.state.view_is) stands in
    let ms = core.rows.messages in
    let e : slice_get ms c.args.place ≡ Some c.in-Some.message = sym (c.in_ok-found.ensures ms core.rows.parts was.centre.messages_are) ∙ c.in-Some.is in
    subst (λ (o : Option MessageRow). OnOk c.note_message.result (c.note_message.new.ids.items ≡ c.args.ids.now.items ++ gone_at (may_go_now c.args.before core) o)) (sym e)
    (c.note_message.ensures core represents stands (got_found ms c.args.place c.in-Some.message was.centre.sound.rows.messages.message_keys e))

pub returns-in-None : goal.returns-in-None
returns-in-None c = λ core represents stands.
    let s : CentreStateOf = record { setup = c.state.inside.setup; moment = c.state.inside.moment; messages = c.state.inside.messages; reference_index = c.state.inside.reference_index; queues = c.state.inside.queues; reports = c.state.inside.reports; log = c.state.inside.log; sessions = c.state.inside.sessions } in
    let was : StateRepresents core s = subst (λ (x : CentreStateOf). StateRepresents core x) (sym c.state.view_is) stands in
    let ms = core.rows.messages in
    let e : slice_get ms c.args.place ≡ None = sym (c.in_ok-found.ensures ms core.rows.parts was.centre.messages_are) ∙ c.in-None.is in
    sym (append-nil c.args.ids.now.items) ∙ ap (λ (o : Option MessageRow). c.args.ids.now.items ++ gone_at (may_go_now c.args.before core) o) (sym e)
