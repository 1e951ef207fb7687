use Rattle.std.proofs.Common.{ap}
use Rattle.sms_seats.proofs.AnswersKeep.{takes_rest, totals}
use Rattle.sms_seats.proofs.answers.take_rest.Goals as goal

pub pop_as-requires-clause-rule : goal.pop_as-requires-clause-rule
pop_as-requires-clause-rule g c = (takes_rest _ _ (ap (λ v. v.gives) c.requires.mine) (ap (λ v. v.takes) c.requires.mine), totals _ _ (ap (λ v. v.gives) c.requires.mine) (ap (λ v. v.takes) c.requires.mine))
