use Rattle.std.proofs.Common.{ap}
use Rattle.sms_seats.proofs.AnswersKeep.{gives}
use Rattle.sms_seats.proofs.answers.give.Goals as goal

pub push_as-requires-clause-rule : goal.push_as-requires-clause-rule
push_as-requires-clause-rule g c = (gives _ _ _ _ (ap (λ v. v.gives) c.requires.mine), λ items views h at. tt)
