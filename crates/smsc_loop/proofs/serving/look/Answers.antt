use Rattle.std.proofs.Common.{refl}
use Rattle.std.specs.Prelude.{is_ok}
use Rattle.smsc_loop.specs.Calls.{Told}
use Rattle.smsc_loop.specs.Phases.{Serves, behind}
use Rattle.smsc_loop.proofs.Joins.{did_still, did_join}
use Rattle.smsc_loop.proofs.serving.look.Goals as goal

pub returns-clause-did : goal.returns-clause-did
returns-clause-did g c = λ s.
    did_join g.G.Endpoint.does _ _ _ (did_still g.G.Endpoint.does (Told _) _ _ Serves Serves _ _ s refl refl refl refl c.take_full.ensures.told (refl, refl))
    (did_join g.G.Endpoint.does _ _ _ (c.read-end.ensures.did s) (c.observe_notes.ensures (behind (is_ok c.read-end.result) Serves) _ _ s))
