use Rattle.smsc_loop.specs.Phases.{Serves}
use Rattle.smsc_loop.proofs.Reasons.{goes_on_if}
use Rattle.smsc_loop.proofs.Went.{if_refused}
use Rattle.smsc_loop.proofs.Joins.{did_join, did_refused}
use Rattle.smsc_loop.proofs.serving.wait_on.Goals as goal

pub returns-in_err-end-clause-did : goal.returns-in_err-end-clause-did
returns-in_err-end-clause-did g c = did_refused g.G.Endpoint.does _ c.from_residual.result c.from_residual.ensures.1 _ _ Serves _ _ _ (c.in_err-end.ensures.did _ _ _)

pub returns-in_err-end-clause-meant : goal.returns-in_err-end-clause-meant
returns-in_err-end-clause-meant g c = if_refused _ _ c.from_residual.result c.from_residual.ensures.1

pub returns-then-not-heard-clause-did : goal.returns-then-not-heard-clause-did
returns-then-not-heard-clause-did g c = did_join g.G.Endpoint.does _ _ _ (c.in_ok-end.ensures.did _ _ _) c.attend.ensures.did

pub returns-then-not-heard-clause-meant : goal.returns-then-not-heard-clause-meant
returns-then-not-heard-clause-meant g c = goes_on_if g.G.Endpoint.waits g.G.Endpoint.over g.G.Endpoint.owing _ _ _ c.attend.result c.attend.ensures.stays

pub returns-clause-did : goal.returns-clause-did
returns-clause-did g c = c.in_ok-end.ensures.did _ _ _

pub returns-clause-meant : goal.returns-clause-meant
returns-clause-meant g c = c.in_ok-end.ensures.meant _ _
