use Rattle.std.proofs.Common.{Some, None, refl}
use Rattle.smsc_loop.specs.Calls.{Noted}
use Rattle.smsc_loop.proofs.Joins.{did_still, did_join, did_none}
use Rattle.smsc_loop.proofs.observing.observe_notes.Goals as goal

pub loop-init : goal.loop-init
loop-init g c = λ p a w s. did_none g.G.Endpoint.does _ p a w s

pub returns-in-None : goal.returns-in-None
returns-in-None g c = λ p a w s. did_join g.G.Endpoint.does _ _ _ (c.loop.invariant p a w s) (did_still g.G.Endpoint.does (Noted None) _ _ p p a w s refl refl refl refl c.in-None.ensures.noted refl)

pub loop-preserved : goal.loop-preserved
loop-preserved g c = λ p a w s. did_join g.G.Endpoint.does _ _ _ (c.loop.invariant p a w s) (did_still g.G.Endpoint.does (Noted (Some c.in-Some.note)) _ _ p p a w s refl refl refl refl c.in-Some.ensures.noted refl)

pub returns : goal.returns
returns g c = c.loop.invariant
