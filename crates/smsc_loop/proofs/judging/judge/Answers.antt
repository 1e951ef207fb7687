use Rattle.smsc_loop.proofs.Duties.{heeds_ends, heeds_led}
use Rattle.smsc_loop.proofs.judging.judge.Goals as goal

pub returns-clause-did : goal.returns-clause-did
returns-clause-did g c = heeds_led g.G.Endpoint.waits g.G.Endpoint.over g.G.Endpoint.owing g.G.Endpoint.does _ _ _ _ _ _ _ _ c.heed.ensures

pub returns-clause-meant : goal.returns-clause-meant
returns-clause-meant g c = heeds_ends g.G.Endpoint.waits g.G.Endpoint.over g.G.Endpoint.owing g.G.Endpoint.does _ _ _ _ _ _ _ _ c.heed.ensures
