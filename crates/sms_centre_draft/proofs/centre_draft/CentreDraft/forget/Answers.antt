use Rattle.std.proofs.Common.{ℕ, List, length, get_or, ◌∙◌, ap, subst, arith}
use Rattle.std.proofs.Math.ListN.{drop_of_length-le}
use Rattle.sms_centre_spec.specs.forgetting.Forget.{going_now}
use Rattle.sms_centre_draft.proofs.MessagesGo.{went_all, went_first, went_on}
use Rattle.sms_centre_draft.proofs.centre_draft.CentreDraft.forget.Goals as goal

pub loop-id-init : goal.loop-id-init
loop-id-init c = λ before from most core sound represents are log. went_first before from most core sound c.args.self.now represents

pub loop-id-preserved : goal.loop-id-preserved
loop-id-preserved c = λ before from most core sound represents are log.
    let i = c.loop-id.id-index in
    let count = ap (λ (l : List ℕ). length l) are in
    went_on before from most core sound i c.id-item.result c.args.self.now c.loop-id.self c.forget_one.new.self c.place_of.result (omega (arith, count, c.loop-id-test.true))
    (c.id-item.is ∙ ap (λ (l : List ℕ). get_or l i c.id-item.result) are)
    (c.place_of.ensures core.rows.reports log)
    c.in_ok-forget_one.ensures.messages (c.in_ok-forget_one.ensures.reports core.rows.messages) c.in_ok-forget_one.ensures.rest (c.loop-id.invariant before from most core sound represents are log)

pub returns : goal.returns
returns c = λ before from most core sound represents are log.
    let i = c.loop-id.id-index in
    let count = ap (λ (l : List ℕ). length l) are in
    went_all before from most core sound i c.args.self.now c.loop-id.self (drop_of_length-le (going_now before from most core) (omega (arith, count, c.loop-id-test.false)))
    represents (c.loop-id.invariant before from most core sound represents are log)
