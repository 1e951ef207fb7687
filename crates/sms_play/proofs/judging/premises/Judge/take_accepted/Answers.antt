use Rattle.std.proofs.Common.{◌∙◌, arith}
use Rattle.sms_play.proofs.judging.Accepting.{same_length}
use Rattle.sms_play.proofs.judging.Verdicts.{all_known, next_known}
use Rattle.sms_play.proofs.judging.premises.Judge.take_accepted.Goals as goal

pub loop-place-preserved : goal.loop-place-preserved
loop-place-preserved g c = (
  omega (arith, c.in_ok-take_accepted_at.ensures.places),
  c.in_ok-take_accepted_at.ensures.same.0 ∙ c.loop-place.invariant.1,
  λ before after represents goes start.
      let known = c.loop-place.invariant.2 before after represents goes start in
      let same = same_length before.parties after.parties goes.parties in
      let all = c.handsets-place-end.ensures after represents in
      next_known before after c.loop-place.place c.loop-place.self c.take_accepted_at.new.self goes (omega (arith, c.loop-place-test.true, same, all)) known c.accepted.result.now (c.accepted.ensures after represents)
      c.in_ok-take_accepted_at.ensures.watch c.in_ok-take_accepted_at.ensures.counts c.in_ok-take_accepted_at.ensures.same.1,
)

pub returns-clause-knows : goal.returns-clause-knows
returns-clause-knows g c = λ before after represents goes start.
    let all = c.handsets-place-end.ensures after represents in
    all_known before after c.loop-place.place c.loop-place.self goes (omega (arith, c.loop-place-test.false, c.loop-place.auto.place-end, all)) (c.loop-place.invariant.2 before after represents goes start)
