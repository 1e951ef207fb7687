use Rattle.std.proofs.Common.{true, false, refl}
use Rattle.smsc_loop.specs.Phases.{Serves, Fails}
use Rattle.smsc_loop.specs.Calls.{GaveUp}
use Rattle.smsc_loop.proofs.Joins.{did_still, did_join}
use Rattle.smsc_loop.proofs.flowing.say_farewell.Goals as goal

pub returns-in-Ok : goal.returns-in-Ok
returns-in-Ok g c = λ s. did_join g.G.Endpoint.does _ _ _ (did_still g.G.Endpoint.does (GaveUp true) _ _ Serves Serves _ _ s refl refl refl refl c.in-Ok.ensures.given_up (refl, refl)) (c.send.ensures.did s)

pub returns-in-Err : goal.returns-in-Err
returns-in-Err g c = λ s. did_still g.G.Endpoint.does (GaveUp false) _ _ Serves Fails _ _ s refl refl refl refl c.in-Err.ensures.given_up (refl, refl)
