use Rattle.std.proofs.Common.{refl}
use Rattle.sms_play.proofs.judging.Verdicts.{judged_new}
use Rattle.sms_play.proofs.judging.premises.Judge.new.Goals as goal

pub returns : goal.returns
returns c = λ play new. judged_new play _ new refl refl c.new-2.ensures.items c.new.ensures
