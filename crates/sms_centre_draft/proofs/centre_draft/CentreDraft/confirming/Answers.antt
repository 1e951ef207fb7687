use Rattle.std.proofs.Common.{List, ℕ, ◌≡◌, length, Some, sym, ◌∙◌, ap, subst, arith}
use Rattle.sms_relay.specs.RelayGrammar.{ack_down}
use Rattle.sms_intake.specs.SubmitReports.{accepting_report}
use Rattle.sms_centre_draft.specs.CentreDraft.{Represents, CentreDraftOf}
use Rattle.sms_centre_draft.proofs.AnswerLengths.{accepting_length}
use Rattle.sms_centre_draft.proofs.centre_draft.CentreDraft.confirming.Goals as goal

pub ack_unit-requires : goal.ack_unit-requires
ack_unit-requires c =
    let n : length c.as_slice.result.now ≡ 9 = ap (λ (o : List ℕ). length o) (c.as_slice.ensures ∙ c.in_ok-report.ensures) ∙ accepting_length c.self.inside.moment in omega (arith, n)

pub returns-clause-is : goal.returns-clause-is
returns-clause-is c = λ d represents.
    let w : CentreDraftOf = record { setup = c.self.inside.setup.now; moment = c.self.inside.moment; messages = c.self.inside.messages; queues = c.self.inside.queues; reports = c.self.inside.reports; bindings = c.self.inside.bindings; answer = c.self.inside.answer } in
    let was : Represents d w = subst (λ (x : CentreDraftOf). Represents d x) (sym c.self.view_is) represents in
    c.in_ok-unit.ensures ∙ ap (λ (o : List ℕ). ack_down c.args.reference (Some o)) (c.as_slice.ensures ∙ c.in_ok-report.ensures ∙ ap (λ (n : ℕ). accepting_report n) was.moment)

pub returns-clause-len : goal.returns-clause-len
returns-clause-len c =
    ap (λ (o : List ℕ). length o) (c.in_ok-unit.ensures ∙ ap (λ (o : List ℕ). ack_down c.args.reference (Some o)) (c.as_slice.ensures ∙ c.in_ok-report.ensures))
