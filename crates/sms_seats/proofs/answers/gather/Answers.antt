use Rattle.std.proofs.Common.{ap}
use Rattle.sms_seats.proofs.AnswersKeep.{merges, forks}
use Rattle.sms_seats.proofs.answers.gather.Goals as goal

pub absorb-requires-clause-rule : goal.absorb-requires-clause-rule
absorb-requires-clause-rule g c = merges _ _ _ _ (ap (λ v. v.gives) c.requires.giver) (ap (λ v. v.takes) c.requires.taker)

pub another-spare-requires-clause-rule : goal.another-spare-requires-clause-rule
another-spare-requires-clause-rule g c = forks _ _ (ap (λ v. v.gives) c.empty-emptied.ensures.mine.1) (ap (λ v. v.takes) c.empty-emptied.ensures.mine.1)
