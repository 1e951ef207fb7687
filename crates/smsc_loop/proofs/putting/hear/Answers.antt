use Rattle.smsc_loop.proofs.Joins.{did_join, did_none, did_refused}
use Rattle.smsc_loop.proofs.putting.hear.Goals as goal

pub loop-init : goal.loop-init
loop-init g c = λ p a w l. did_none g.G.Endpoint.does _ p a w _

pub returns-in_err-hear_next : goal.returns-in_err-hear_next
returns-in_err-hear_next g c = λ p a w l.
    did_refused g.G.Endpoint.does _ c.from_residual.result c.from_residual.ensures.1 _ _ p a w _
    (did_join g.G.Endpoint.does _ _ _ (c.loop.invariant p a w l) (c.in_err-hear_next.ensures p a w l))

pub returns-then-not-branch : goal.returns-then-not-branch
returns-then-not-branch g c = λ p a w l. did_join g.G.Endpoint.does _ _ _ (c.loop.invariant p a w l) (c.in_ok-hear_next.ensures p a w l)

pub loop-preserved : goal.loop-preserved
loop-preserved g c = λ p a w l. did_join g.G.Endpoint.does _ _ _ (c.loop.invariant p a w l) (c.in_ok-hear_next.ensures p a w l)

pub returns : goal.returns
returns g c = c.loop.invariant
