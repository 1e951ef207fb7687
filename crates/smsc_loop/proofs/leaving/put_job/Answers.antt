use Rattle.std.proofs.Common.{None, refl, ◌∙◌}
use Rattle.smsc_loop.proofs.Joins.{seat_same, seat_trans}
use Rattle.smsc_loop.proofs.Drops.{drops_both, drops_next, drops_none, put_one}
use Rattle.smsc_loop.proofs.leaving.put_job.Goals as goal

pub loop-init : goal.loop-init
loop-init g c = (drops_none _, refl, seat_same _, refl)

pub returns-then-is_over-clause-dropped : goal.returns-then-is_over-clause-dropped
returns-then-is_over-clause-dropped g c = c.loop.invariant.0

pub returns-then-is_over-clause-seat : goal.returns-then-is_over-clause-seat
returns-then-is_over-clause-seat g c = c.loop.invariant.2

pub returns-in-Ok-clause-seat : goal.returns-in-Ok-clause-seat
returns-in-Ok-clause-seat g c = seat_trans _ _ _ c.loop.invariant.2 c.put.ensures.seat

pub returns-then-is_over-clause-put : goal.returns-then-is_over-clause-put
returns-then-is_over-clause-put g c = (c.is_over.ensures.over c.if-is_over.true, c.loop.invariant.1)

pub returns-in-Ok-clause-dropped : goal.returns-in-Ok-clause-dropped
returns-in-Ok-clause-dropped g c = drops_next None _ _ _ c.loop.invariant.0 c.put.ensures.taken

pub returns-in-Ok-clause-put : goal.returns-in-Ok-clause-put
returns-in-Ok-clause-put g c = put_one _ _ _ _ _ c.loop.invariant.1 c.in-Ok.ensures.put c.loop.invariant.3

pub loop-preserved : goal.loop-preserved
loop-preserved g c = (
  drops_both _ _ _ (drops_next None _ _ _ c.loop.invariant.0 c.put.ensures.taken) c.drop_replies.ensures.dropped,
  c.drop_replies.ensures.put ∙ (c.in-Err.ensures.put.1 ∙ c.loop.invariant.1),
  seat_trans _ _ _ (seat_trans _ _ _ c.loop.invariant.2 c.put.ensures.seat) c.drop_replies.ensures.seat,
  c.in-Err.ensures.put.0 ∙ c.loop.invariant.3,
)
