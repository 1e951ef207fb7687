use Rattle.std.proofs.Common.{◌≡◌, ◌+◌, List, ◌∷◌, drop, sym, ◌∙◌, ap, subst, arith}
use Rattle.std.proofs.lemmas.List.{drop_all, drop_more}
use Rattle.sms_centre_rows.specs.declared.messages.claim.Claim.{Claim}
use Rattle.sms_centre.specs.Barring.{ArePut}
use Rattle.sms_centre.proofs.barring.keep_each.Goals as goal

pub loop-claim-init : goal.loop-claim-init
loop-claim-init c = λ core stands put. put

pub loop-claim-preserved : goal.loop-claim-preserved
loop-claim-preserved c = λ core stands put.
    let x : Claim = c.claim-item.result in
    let left : List Claim = drop (c.loop-claim.claim-index + 1) c.args.claims.now in
    let next : drop c.loop-claim.claim-index c.args.claims.now ≡ x ∷ left =
    drop_more c.args.claims.now c.loop-claim.claim-index x c.loop-claim-test.true ∙ ap (λ (y : Claim). y ∷ left) (sym c.claim-item.is) in
    c.in_ok-keep.ensures core c.args.claims.now left stands
    (subst (λ (l : List Claim). ArePut core.rows.bars c.args.claims.now l c.loop-claim.bars) next (c.loop-claim.invariant core stands put))

pub returns : goal.returns
returns c = λ core stands put.
    subst (λ (l : List Claim). ArePut core.rows.bars c.args.claims.now l c.loop-claim.bars)
    (drop_all c.loop-claim.claim-index c.args.claims.now (omega (arith, c.loop-claim-test.false))) (c.loop-claim.invariant core stands put)
