use Rattle.std.proofs.Common.{refl, inl}
use Rattle.smsc_loop.specs.Phases.{Serves, Fails}
use Rattle.smsc_loop.proofs.Reasons.{meant_in, meant_ok}
use Rattle.smsc_loop.proofs.Joins.{did_join, did_none}
use Rattle.smsc_loop.proofs.serving.stay.Goals as goal

pub loop-init : goal.loop-init
loop-init g c = did_none g.G.Endpoint.does _ Serves _ _ _

pub returns-then-is_over : goal.returns-then-is_over
returns-then-is_over g c = (Serves, c.loop.invariant, (refl, inl (c.is_over.ensures.over c.if-is_over.true)))

pub loop-preserved : goal.loop-preserved
loop-preserved g c = did_join g.G.Endpoint.does _ _ _ c.loop.invariant c.in-Ok.ensures.did

pub returns-in-Leaves : goal.returns-in-Leaves
returns-in-Leaves g c = (
  Serves,
  did_join g.G.Endpoint.does _ _ _ c.loop.invariant c.in-Ok.ensures.did,
  meant_in g.G.Endpoint.waits g.G.Endpoint.over g.G.Endpoint.owing _ _ _ _ Serves _
      (meant_ok g.G.Endpoint.waits g.G.Endpoint.over g.G.Endpoint.owing _ _ _ c.in-Ok.end _ c.in-Leaves.is c.in-Ok.ensures.meant),
)

pub returns-in-Err : goal.returns-in-Err
returns-in-Err g c = (Fails, did_join g.G.Endpoint.does _ _ _ c.loop.invariant c.in-Err.ensures.did, refl)
