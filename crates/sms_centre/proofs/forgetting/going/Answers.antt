use Rattle.sms_centre.proofs.forgetting.going.Goals as goal

pub returns-in-Ok : goal.returns-in-Ok
returns-in-Ok c = λ core represents stands. c.in-Ok.ensures core represents stands c.new-ids.ensures.items
