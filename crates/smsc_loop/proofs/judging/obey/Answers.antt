use Rattle.std.proofs.Common.{refl}
use Rattle.smsc_loop.specs.declared.surroundings.Order.TheVariants.{Stay, Unbind, End, Replaced}
use Rattle.smsc_loop.proofs.Duties.{obeys_as}
use Rattle.smsc_loop.proofs.judging.obey.Goals as goal

pub returns-in-Stay : goal.returns-in-Stay
returns-in-Stay g c = obeys_as g.G.Endpoint.does g.G.Endpoint.owing c.args.order Stay _ _ _ _ _ _ c.in-Stay.is (refl, refl, refl)

pub returns-in-End : goal.returns-in-End
returns-in-End g c = obeys_as g.G.Endpoint.does g.G.Endpoint.owing c.args.order End _ _ _ _ _ _ c.in-End.is (refl, refl, refl)

pub returns-in-Replaced : goal.returns-in-Replaced
returns-in-Replaced g c = obeys_as g.G.Endpoint.does g.G.Endpoint.owing c.args.order Replaced _ _ _ _ _ _ c.in-Replaced.is (refl, refl, refl)

pub returns-in-Unbind : goal.returns-in-Unbind
returns-in-Unbind g c = obeys_as g.G.Endpoint.does g.G.Endpoint.owing c.args.order Unbind _ _ _ _ _ _ c.in-Unbind.is c.unbind.ensures
