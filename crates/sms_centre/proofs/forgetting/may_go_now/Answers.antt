use Rattle.std.proofs.Common.{◌≡◌, Bool, sym, ◌∙◌, ap, subst}
use Rattle.std.specs.Prelude.{◌&&◌, not}
use Rattle.std.proofs.lemmas.Bool.{and_left, and_right}
use Rattle.sms_centre_rows.specs.reports.Receipts.{Bindings, is_unanswered}
use Rattle.sms_centre_spec.specs.forgetting.Forget.{is_on_way}
use Rattle.sms_centre_spec.specs.forgetting.Forgetting.{may_go}
use Rattle.sms_centre_spec.specs.Draft.{draft_of}
use Rattle.sms_centre_draft.specs.CentreDraft.{CentreDraftOf, Represents as DraftRepresents}
use Rattle.sms_centre.proofs.forgetting.may_go_now.Goals as goal

pub returns-then-not-may_go : goal.returns-then-not-may_go
returns-then-not-may_go c = λ core represents stands there.
    let m = c.args.message.now in
    sym (and_left (may_go c.args.before core.rows m) (not (is_unanswered m.id core.sessions) && not (is_on_way m.id core.links))
    (sym (c.may_go.ensures core stands) ∙ c.if-not-may_go.true))

pub returns-then-is_unanswered : goal.returns-then-is_unanswered
returns-then-is_unanswered c = λ core represents stands there.
    let m = c.args.message.now in
    let was : DraftRepresents (draft_of core) (record { setup = c.draft.inside.setup.now; moment = c.draft.inside.moment; messages = c.draft.inside.messages; queues = c.draft.inside.queues; reports = c.draft.inside.reports; bindings = c.draft.inside.bindings; answer = c.draft.inside.answer }) =
    subst (λ (x : CentreDraftOf). DraftRepresents (draft_of core) x) (sym c.draft.view_is) represents in
    let yes = ap (λ (b : Bindings). is_unanswered m.id b.sessions) (sym was.bindings) ∙ sym c.is_unanswered.ensures ∙ c.if-is_unanswered.true in
    sym (and_right (may_go c.args.before core.rows m) (not (is_unanswered m.id core.sessions) && not (is_on_way m.id core.links))
    (and_left (not (is_unanswered m.id core.sessions)) (not (is_on_way m.id core.links)) (ap not yes)))

pub returns : goal.returns
returns c = λ core represents stands there.
    let m = c.args.message.now in
    let was : DraftRepresents (draft_of core) (record { setup = c.draft.inside.setup.now; moment = c.draft.inside.moment; messages = c.draft.inside.messages; queues = c.draft.inside.queues; reports = c.draft.inside.reports; bindings = c.draft.inside.bindings; answer = c.draft.inside.answer }) =
    subst (λ (x : CentreDraftOf). DraftRepresents (draft_of core) x) (sym c.draft.view_is) represents in
    let may = sym (c.may_go.ensures core stands) ∙ c.if-not-may_go.false in
    let answered = ap not (ap (λ (b : Bindings). is_unanswered m.id b.sessions) (sym was.bindings) ∙ sym c.is_unanswered.ensures ∙ c.if-is_unanswered.false) in
    ap not (c.is_on_way.ensures core c.args.state.now represents stands there)
    ∙ ap (λ (b : Bool). b && not (is_on_way m.id core.links)) (sym answered)
    ∙ ap (λ (b : Bool). b && (not (is_unanswered m.id core.sessions) && not (is_on_way m.id core.links))) (sym may)
