use Rattle.sms_centre.proofs.state.restarting.renew.Goals as goal

pub returns-clause-consistent : goal.returns-clause-consistent
returns-clause-consistent c = λ rows references links waiting stood. c.in_ok-settled.ensures.consistent rows references links waiting c.adopt.new.self stood c.adopt.ensures
