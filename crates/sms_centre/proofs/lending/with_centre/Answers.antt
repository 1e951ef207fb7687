use Rattle.sms_centre.proofs.lending.with_centre.Goals as goal

pub returns-clause-given : goal.returns-clause-given
returns-clause-given g c = (c.in_ok-centre.centre, c.lend.ensures.0, c.in_ok-centre.ensures.centre_state, c.lend.ensures.1)
