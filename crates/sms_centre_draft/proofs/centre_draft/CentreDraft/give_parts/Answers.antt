-- give_parts
use Rattle.std.proofs.Common.{◌+◌, refl, sym, subst, drop, arith}
use Rattle.std.proofs.Math.ListN.{drop_of_length-le}
use Rattle.sms_base.proofs.Lists.{drop_item}
use Rattle.sms_intake.specs.PartBodies.{IsPartData}
use Rattle.sms_centre_draft.proofs.Entering.{body_at, coming_done, coming_next}
use Rattle.sms_centre_draft.proofs.centre_draft.CentreDraft.give_parts.Goals as goal

pub loop-body-init : goal.loop-body-init
loop-body-init c = record { count = refl; coming = λ d s represents can is. record { store = d.store; represents = represents; can = can; goes = is } }

pub give_part-requires-clause-user_data : goal.give_part-requires-clause-user_data
give_part-requires-clause-user_data c =
    subst IsPartData (sym c.body-item.is) (c.requires.bodies _ (body_at c.args.bodies.now c.loop-body.body-index c.body-item.result (omega (arith, c.loop-body-test.true)))).fields

pub returns : goal.returns
returns c = λ d s represents can is.
    coming_done d c.args.id c.args.submission.now s (c.loop-body.number + 1) (drop c.loop-body.body-index c.args.bodies.now) c.loop-body.self
    (drop_of_length-le c.args.bodies.now (omega (arith, c.loop-body-test.false))) (c.loop-body.invariant.coming d s represents can is)

pub loop-body-preserved : goal.loop-body-preserved
loop-body-preserved c = record {
  count = omega (arith, c.loop-body.invariant.count);
  coming = λ d s represents can is.
      let bodies = c.args.bodies.now in
      let i = c.loop-body.body-index in
      let n = c.loop-body.number + 1 in
      coming_next d c.args.id c.args.submission.now s n (drop i bodies) c.body-item.result (drop (i + 1) bodies) c.loop-body.self c.give_part.new.self
      (drop_item bodies i c.body-item.result (omega (arith, c.loop-body-test.true)) c.body-item.is) (c.loop-body.invariant.coming d s represents can is)
      (omega (arith, c.loop-body.invariant.count, c.loop-body-test.true, c.requires.few)) c.in_ok-give_part.ensures;
}
