use Rattle.std.proofs.Common.{sym, ap, ◌∙◌, length, arith}
use Rattle.smpp_pdu.specs.declared.status.CommandStatus.TheVariants.{ESME_RTHROTTLED}
use Rattle.sms_centre_spec.specs.declared.answer.CentreAnswer.TheVariants.{Refused}
use Rattle.smsc_endpoint.specs.EsmeView.{EsmeView}
use Rattle.smsc_endpoint.specs.EsmeCalls.{throttled_next}
use Rattle.smsc_endpoint.proofs.Throttling.{none_throttled, one_fewer, one_throttled}
use Rattle.smsc_endpoint.proofs.esme.Esme.answer_throttled.Goals as goal

pub answering-preserved : goal.answering-preserved
answering-preserved c =
    let l = c.answering in
    ap (λ (e : EsmeView). throttled_next e) c.in_ok-answer_next.ensures
    ∙ (one_throttled l.self (sym c.is_throttled_next.ensures ∙ c.answering-test.true) ∙ l.invariant)

pub answering-smaller : goal.answering-smaller
answering-smaller c =
    let l = c.answering in
    let same = ap (λ (e : EsmeView). length e.waiting) c.in_ok-answer_next.ensures in
    let fewer = one_fewer l.self (Refused ESME_RTHROTTLED) (sym c.is_throttled_next.ensures ∙ c.answering-test.true) in
    omega (arith, same, fewer)

pub returns : goal.returns
returns c =
    let l = c.answering in
    sym (none_throttled l.self (sym c.is_throttled_next.ensures ∙ c.answering-test.false)) ∙ l.invariant
