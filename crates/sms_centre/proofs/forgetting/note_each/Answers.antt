use Rattle.std.proofs.Common.{◌≡◌, ℕ, ◌+◌, List, ◌++◌, Option, sym, ◌∙◌, ap, subst}
use Rattle.std.specs.Prelude.{slice_get}
use Rattle.sms_rows.specs.table.Table.{rows_from}
use Rattle.sms_centre_rows.specs.declared.messages.message.MessageRow.{MessageRow}
use Rattle.sms_centre_rows.specs.messages.Messages.{message_key}
use Rattle.sms_centre_spec.specs.forgetting.Forget.{may_go_now}
use Rattle.sms_centre_spec.specs.forgetting.Forgetting.{going}
use Rattle.sms_centre.specs.Forgetting.{gone_at}
use Rattle.sms_centre.specs.state.CentreState.{CentreStateOf, Represents as StateRepresents}
use Rattle.sms_centre.proofs.MayGo.{behind_start, going_more}
use Rattle.sms_centre.proofs.forgetting.note_each.Goals as goal

pub loop-behind-preserved : goal.loop-behind-preserved
loop-behind-preserved c = λ core represents stands none.
    let s : CentreStateOf = record { setup = c.state.inside.setup; moment = c.state.inside.moment; messages = c.state.inside.messages; reference_index = c.state.inside.reference_index; queues = c.state.inside.queues; reports = c.state.inside.reports; log = c.state.inside.log; sessions = c.state.inside.sessions } in
    let was : StateRepresents core s = subst (λ (x : CentreStateOf). StateRepresents core x) (sym c.state.view_is) stands in
    let goes = may_go_now c.args.before core in
    let n = c.loop-behind.behind in
    let ms = rows_from message_key c.args.from core.rows.messages in
    let at : slice_get ms n ≡ slice_get core.rows.messages (c.place_from-start.result + n) =
    ap (λ (l : List MessageRow). slice_get l n) (sym (c.place_from-start.ensures core.rows.messages core.rows.parts was.centre.messages_are)) ∙ behind_start c.place_from-start.result n core.rows.messages in
    c.in_ok-note_behind.ensures core represents stands
    ∙ ap (λ (l : List ℕ). l ++ gone_at goes (slice_get core.rows.messages (c.place_from-start.result + n))) (c.loop-behind.invariant core represents stands none)
    ∙ ap (λ (o : Option MessageRow). going goes n ms ++ gone_at goes o) (sym at)
    ∙ sym (going_more goes n ms)
