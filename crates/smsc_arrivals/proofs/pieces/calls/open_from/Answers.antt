use Rattle.smsc_arrivals.proofs.Crossing.{begins, forks}
use Rattle.smsc_arrivals.proofs.pieces.calls.open_from.Goals as goal

pub bounded_with-requires-clause-rule : goal.bounded_with-requires-clause-rule
bounded_with-requires-clause-rule g c = begins

pub another-other-requires-clause-rule : goal.another-other-requires-clause-rule
another-other-requires-clause-rule g c = forks _ _ _ c.in_ok-sender.ensures.3
