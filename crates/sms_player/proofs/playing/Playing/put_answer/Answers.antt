use Rattle.sms_player.proofs.playing.Outcomes.{told_none, told_some}
use Rattle.sms_player.proofs.playing.Playing.put_answer.Goals as goal

pub returns-in-Some : goal.returns-in-Some
returns-in-Some c = λ play shown. told_some play c.args.self.now shown c.answer.result c.answer.new.self c.args.event c.args.answer c.in-Some.answer c.answered_as.result c.in-Some.is c.answered_as.ensures c.answer.ensures

pub returns-in-None : goal.returns-in-None
returns-in-None c = λ play shown. told_none play c.args.self.now shown c.args.event c.args.answer c.in-None.is
