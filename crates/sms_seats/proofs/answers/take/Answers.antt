use Rattle.std.proofs.Common.{ap}
use Rattle.sms_seats.proofs.AnswersKeep.{takes}
use Rattle.sms_seats.proofs.answers.take.Goals as goal

pub pop_as-requires-clause-rule : goal.pop_as-requires-clause-rule
pop_as-requires-clause-rule g c = (takes _ _ (ap (λ v. v.takes) c.requires.mine), λ items views h at. tt)
