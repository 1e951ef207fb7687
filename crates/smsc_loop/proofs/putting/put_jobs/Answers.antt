use Rattle.smsc_loop.proofs.Joins.{did_join, did_none, did_refused}
use Rattle.smsc_loop.proofs.putting.put_jobs.Goals as goal

pub loop-init : goal.loop-init
loop-init g c = λ p a w l k. did_none g.G.Endpoint.does _ p a w _

pub returns-in_err-put_next : goal.returns-in_err-put_next
returns-in_err-put_next g c = λ p a w l k.
    did_refused g.G.Endpoint.does _ c.from_residual.result c.from_residual.ensures.1 _ _ p a w _
    (did_join g.G.Endpoint.does _ _ _ (c.loop.invariant p a w l k) (c.in_err-put_next.ensures p a w l k))

pub returns-then-not-branch : goal.returns-then-not-branch
returns-then-not-branch g c = λ p a w l k. did_join g.G.Endpoint.does _ _ _ (c.loop.invariant p a w l k) (c.in_ok-put_next.ensures p a w l k)

pub loop-preserved : goal.loop-preserved
loop-preserved g c = λ p a w l k. did_join g.G.Endpoint.does _ _ _ (c.loop.invariant p a w l k) (c.in_ok-put_next.ensures p a w l k)

pub returns : goal.returns
returns g c = c.loop.invariant
