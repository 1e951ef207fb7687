use Rattle.std.proofs.Common.{refl, sym, ◌∙◌, inl, inr}
use Rattle.smsc_loop.specs.Phases.{Leaves}
use Rattle.smsc_loop.proofs.Joins.{did_join, did_left, did_none}
use Rattle.smsc_loop.proofs.leaving.put_last.Goals as goal

pub loop-init : goal.loop-init
loop-init g c = λ due a w. did_none g.G.Endpoint.does _ (Leaves due) a w _

pub returns-then-is_over-clause-did : goal.returns-then-is_over-clause-did
returns-then-is_over-clause-did g c = c.loop.invariant

pub returns-then-not-has_jobs-clause-did : goal.returns-then-not-has_jobs-clause-did
returns-then-not-has_jobs-clause-did g c = λ due a w.
    did_join g.G.Endpoint.does _ _ _ (c.loop.invariant due a w)
    (did_join g.G.Endpoint.does _ _ _ (did_left g.G.Endpoint.does _ due _ _ a w _ (c.hear.ensures (Leaves due) a w tt)) (did_left g.G.Endpoint.does _ due _ _ a w _ (c.put_jobs.ensures (Leaves due) a w tt refl)))

pub loop-preserved : goal.loop-preserved
loop-preserved g c = λ due a w.
    did_join g.G.Endpoint.does _ _ _ (c.loop.invariant due a w)
    (did_join g.G.Endpoint.does _ _ _ (did_left g.G.Endpoint.does _ due _ _ a w _ (c.hear.ensures (Leaves due) a w tt)) (did_left g.G.Endpoint.does _ due _ _ a w _ (c.put_jobs.ensures (Leaves due) a w tt refl)))

pub returns-then-is_over-clause-put : goal.returns-then-is_over-clause-put
returns-then-is_over-clause-put g c = inl (c.is_over.ensures.over c.if-is_over.true)

pub returns-then-not-has_jobs-clause-put : goal.returns-then-not-has_jobs-clause-put
returns-then-not-has_jobs-clause-put g c = inr (sym c.has_jobs.ensures.any_job ∙ c.if-not-has_jobs.true)

pub returns-clause-did : goal.returns-clause-did
returns-clause-did g c = c.loop.invariant
