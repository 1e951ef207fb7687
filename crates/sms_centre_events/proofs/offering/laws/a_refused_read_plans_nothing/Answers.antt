use Rattle.sms_centre_events.proofs.offering.Planned.{answered_is, refused_is}
use Rattle.sms_centre_events.proofs.offering.laws.a_refused_read_plans_nothing.Goals as goal

pub returns-clause-answered : goal.returns-clause-answered
returns-clause-answered c = answered_is

pub returns-clause-refusal : goal.returns-clause-refusal
returns-clause-refusal c = refused_is
