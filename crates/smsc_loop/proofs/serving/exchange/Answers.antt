use Rattle.std.proofs.Common.{true, false, refl}
use Rattle.smsc_loop.specs.Phases.{Serves, Fails}
use Rattle.smsc_loop.specs.Calls.{Timed}
use Rattle.smsc_loop.proofs.Joins.{did_join, did_still, did_refused}
use Rattle.smsc_loop.proofs.serving.exchange.Goals as goal

pub returns-in_err-at : goal.returns-in_err-at
returns-in_err-at g c = λ a w. did_refused g.G.Endpoint.does _ c.from_residual.result c.from_residual.ensures.1 _ _ Serves a w _ (did_still g.G.Endpoint.does (Timed c.args.now false) _ _ Serves Fails a w _ refl refl refl refl c.in_err-at.ensures.at (refl, refl))

pub returns-in_err-heard : goal.returns-in_err-heard
returns-in_err-heard g c = λ a w.
    did_refused g.G.Endpoint.does _ c.from_residual-in_err-heard.result c.from_residual-in_err-heard.ensures.1 _ _ Serves a w _
    (did_join g.G.Endpoint.does _ _ _ (did_still g.G.Endpoint.does (Timed c.args.now true) _ _ Serves Serves a w _ refl refl refl refl c.in_ok-at.ensures.at (refl, refl)) (c.in_err-heard.ensures Serves a w tt))

pub returns-in_err-put_jobs : goal.returns-in_err-put_jobs
returns-in_err-put_jobs g c = λ a w.
    did_refused g.G.Endpoint.does _ c.from_residual-in_err-put_jobs.result c.from_residual-in_err-put_jobs.ensures.1 _ _ Serves a w _
    (did_join g.G.Endpoint.does _ _ _ (did_still g.G.Endpoint.does (Timed c.args.now true) _ _ Serves Serves a w _ refl refl refl refl c.in_ok-at.ensures.at (refl, refl))
    (did_join g.G.Endpoint.does _ _ _ (c.in_ok-heard.ensures Serves a w tt) (c.in_err-put_jobs.ensures Serves a w tt tt)))

pub returns : goal.returns
returns g c = λ a w.
    did_join g.G.Endpoint.does _ _ _ (did_still g.G.Endpoint.does (Timed c.args.now true) _ _ Serves Serves a w _ refl refl refl refl c.in_ok-at.ensures.at (refl, refl))
    (did_join g.G.Endpoint.does _ _ _ (c.in_ok-heard.ensures Serves a w tt) (did_join g.G.Endpoint.does _ _ _ (c.in_ok-put_jobs.ensures Serves a w tt tt) (c.observe_notes.ensures Serves a w _)))
