use Rattle.sms_player.proofs.playing.watching.one.Goals as goal

pub returns-in-Ok-clause-seen : goal.returns-in-Ok-clause-seen
returns-in-Ok-clause-seen g c = λ play broken shown seen. c.play_one.ensures.seen play broken shown (c.in-Ok.ensures broken play shown seen)
