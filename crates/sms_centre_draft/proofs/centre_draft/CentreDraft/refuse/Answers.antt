use Rattle.std.proofs.Common.{List, ℕ, length, OnOk, ◌∙◌, ap, subst, arith}
use Rattle.sms_base.specs.declared.carried.Kind.TheVariants.{Error}
use Rattle.sms_centre_spec.specs.Receiving.{reply}
use Rattle.sms_centre_draft.specs.CentreDraft.{Represents}
use Rattle.sms_centre_draft.proofs.centre_draft.CentreDraft.refuse.Goals as goal

pub reply-requires-clause-some : goal.reply-requires-clause-some
reply-requires-clause-some c = let n = c.in_ok-unit.ensures.len in let e = ap (λ (o : List ℕ). length o) c.as_slice.ensures in omega (arith, n, e)

pub reply-requires-clause-fits : goal.reply-requires-clause-fits
reply-requires-clause-fits c = let n = c.in_ok-unit.ensures.len in let e = ap (λ (o : List ℕ). length o) c.as_slice.ensures in omega (arith, n, e)

pub returns : goal.returns
returns c = λ d represents.
    subst (λ (o : List ℕ). OnOk c.reply.result (Represents (reply c.args.transfer.now.handset Error c.args.transfer.now.reference c.args.transfer.now.tag o d) c.reply.new.self)) (c.as_slice.ensures ∙ c.in_ok-unit.ensures.is d represents)
    (c.reply.ensures d represents)
