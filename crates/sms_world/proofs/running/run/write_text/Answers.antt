use Rattle.sms_world.proofs.running.run.write_text.Goals as goal

pub returns-in-Ok : goal.returns-in-Ok
returns-in-Ok g c = λ ran is. (c.args.text.now, (is, c.in-Ok.ensures.bytes))
