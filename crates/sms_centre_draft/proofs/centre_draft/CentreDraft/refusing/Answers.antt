use Rattle.std.proofs.Common.{List, ℕ, ◌≡◌, length, Some, sym, ◌∙◌, ap, subst, arith}
use Rattle.sms_relay.specs.declared.cause.RpCause.{RpCause}
use Rattle.sms_relay.specs.Cause.{IsRpCause}
use Rattle.sms_relay.specs.RelayGrammar.{error_down}
use Rattle.sms_intake.specs.Refusals.{cause_of}
use Rattle.sms_intake.specs.SubmitReports.{refusing_report}
use Rattle.sms_centre_draft.specs.CentreDraft.{Represents, CentreDraftOf}
use Rattle.sms_centre_draft.proofs.AnswerLengths.{refusal_cause, refusing_length}
use Rattle.sms_centre_draft.proofs.centre_draft.CentreDraft.refusing.Goals as goal

pub error_unit-requires : goal.error_unit-requires
error_unit-requires c = record {
  cause = subst IsRpCause (sym c.cause.ensures) (refusal_cause c.args.refusal);
  report = (let n : length c.as_slice.result.now ≡ 10 = ap (λ (o : List ℕ). length o) (c.as_slice.ensures ∙ c.in_ok-report.ensures) ∙ refusing_length c.args.refusal c.self.inside.moment in omega (arith, n));
}

pub returns-clause-is : goal.returns-clause-is
returns-clause-is c = λ d represents.
    let w : CentreDraftOf = record { setup = c.self.inside.setup.now; moment = c.self.inside.moment; messages = c.self.inside.messages; queues = c.self.inside.queues; reports = c.self.inside.reports; bindings = c.self.inside.bindings; answer = c.self.inside.answer } in
    let was : Represents d w = subst (λ (x : CentreDraftOf). Represents d x) (sym c.self.view_is) represents in
    c.in_ok-unit.ensures ∙ ap (λ (x : RpCause). error_down c.args.reference x (Some c.as_slice.result.now)) c.cause.ensures
    ∙ ap (λ (o : List ℕ). error_down c.args.reference (cause_of c.args.refusal) (Some o)) (c.as_slice.ensures ∙ c.in_ok-report.ensures ∙ ap (λ (n : ℕ). refusing_report c.args.refusal n) was.moment)

pub returns-clause-len : goal.returns-clause-len
returns-clause-len c =
    ap (λ (o : List ℕ). length o) (c.in_ok-unit.ensures ∙ ap (λ (o : List ℕ). error_down c.args.reference c.cause.result (Some o)) (c.as_slice.ensures ∙ c.in_ok-report.ensures))
