use Rattle.smsc_loop.proofs.Joins.{did_join}
use Rattle.smsc_loop.proofs.serving.go_on.Goals as goal

pub returns-in-Stays-clause-did : goal.returns-in-Stays-clause-did
returns-in-Stays-clause-did g c = did_join g.G.Endpoint.does _ _ _ (c.flow.ensures.did _) c.wait_on.ensures.did

pub returns-in-Stays-clause-meant : goal.returns-in-Stays-clause-meant
returns-in-Stays-clause-meant g c = c.wait_on.ensures.meant

pub returns-in_default-clause-did : goal.returns-in_default-clause-did
returns-in_default-clause-did g c = c.flow.ensures.did _

pub returns-in_default-clause-meant : goal.returns-in_default-clause-meant
returns-in_default-clause-meant g c = c.flow.ensures.meant
