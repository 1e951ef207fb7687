use Rattle.std.proofs.Common.{ap}
use Rattle.sms_seats.proofs.AnswersKeep.{begins, forks}
use Rattle.sms_seats.proofs.opening.open_line.Goals as goal

pub ruled-requires-clause-rule : goal.ruled-requires-clause-rule
ruled-requires-clause-rule g c = begins

pub another-taker-requires-clause-rule : goal.another-taker-requires-clause-rule
another-taker-requires-clause-rule g c = forks _ _ (ap (λ v. v.gives) c.in_ok-queue.ensures.3) (ap (λ v. v.takes) c.in_ok-queue.ensures.3)
