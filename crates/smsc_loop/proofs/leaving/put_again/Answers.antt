use Rattle.std.proofs.Common.{refl, inl, inr}
use Rattle.smsc_loop.specs.Phases.{IsOwn}
use Rattle.smsc_loop.proofs.Drops.{owns_both, owns_taken}
use Rattle.smsc_loop.proofs.leaving.put_again.Goals as goal

pub returns : goal.returns
returns g c =
    owns_both _ _ _ c.put_one.ensures
    (owns_both _ _ _ c.put_one-2.ensures
    (owns_both _ _ _ c.put_one-3.ensures (owns_taken _ _ c.take_answers.ensures.seat c.take_answers.ensures.dropped c.take_answers.ensures.put)))
