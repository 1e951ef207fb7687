use Rattle.std.proofs.Common.{◌≡◌, ◌+◌, List, drop, sym, ◌∙◌, ap, arith}
use Rattle.std.proofs.Math.ListN.{drop_of_length-le}
use Rattle.sms_base.proofs.Lists.{drop_item}
use Rattle.sms_centre_rows.specs.declared.waiting.queued_part.QueuedPart.{QueuedPart}
use Rattle.sms_centre_spec.specs.Draft.{messages_in}
use Rattle.sms_centre_spec.specs.Shares.{held_by}
use Rattle.sms_centre_draft.proofs.SharesHeld.{held_next}
use Rattle.sms_centre_draft.proofs.centre_draft.CentreDraft.held_by.Goals as goal

pub loop-queued-init : goal.loop-queued-init
loop-queued-init c = (omega arith, λ d represents. omega arith)

pub loop-queued-preserved : goal.loop-queued-preserved
loop-queued-preserved c = (
  omega (arith, c.loop-queued.invariant.0, c.one_if-held.ensures.small),
  λ d represents.
      let i = c.loop-queued.queued-index in
      held_next c.args.account.now (messages_in d.store) c.args.waiting.now (drop (i + 1) c.args.waiting.now) (drop i c.args.waiting.now) c.queued-item.result
      c.in_ok-is_own.is_own c.loop-queued.held c.one_if-held.result
      (drop_item c.args.waiting.now i c.queued-item.result (omega (arith, c.loop-queued-test.true)) c.queued-item.is)
      (c.in_ok-is_own.ensures d represents) c.one_if-held.ensures.value (c.loop-queued.invariant.1 d represents),
)

pub returns-clause-held : goal.returns-clause-held
returns-clause-held c = λ d represents.
    let account = c.args.account.now in
    let none : c.loop-queued.held + held_by account (messages_in d.store) (drop c.loop-queued.queued-index c.args.waiting.now) ≡ c.loop-queued.held =
    ap (λ (ls : List QueuedPart). c.loop-queued.held + held_by account (messages_in d.store) ls) (drop_of_length-le c.args.waiting.now (omega (arith, c.loop-queued-test.false)))
    ∙ (let zero : c.loop-queued.held + 0 ≡ c.loop-queued.held = omega arith in zero) in
    sym none ∙ c.loop-queued.invariant.1 d represents
