use Rattle.sms_centre.proofs.forgetting.forget_archived.Goals as goal

pub returns-clause-plan : goal.returns-clause-plan
returns-clause-plan g c = λ before from most core represents stands are. c.in_ok-bars.ensures.plan before from most core represents stands are

pub returns-clause-archived : goal.returns-clause-archived
returns-clause-archived g c = λ core stands. c.in_ok-archive_all.ensures.archived core stands

pub returns-clause-bars : goal.returns-clause-bars
returns-clause-bars g c = λ core stands. c.in_ok-bars.ensures.bars core stands
