use Rattle.std.proofs.Common.{refl, ◌∙◌}
use Rattle.smsc_loop.proofs.Joins.{seat_same, seat_trans}
use Rattle.smsc_loop.proofs.Drops.{drops_next, drops_none}
use Rattle.smsc_loop.proofs.leaving.drop_awaited.Goals as goal

pub loop-init : goal.loop-init
loop-init g c = (drops_none _, refl, seat_same _)

pub returns-then-is_none-clause-dropped : goal.returns-then-is_none-clause-dropped
returns-then-is_none-clause-dropped g c = drops_next c.take.result _ _ _ c.loop.invariant.0 c.take.ensures.taken

pub returns-then-is_none-clause-put : goal.returns-then-is_none-clause-put
returns-then-is_none-clause-put g c = c.take.ensures.put ∙ c.loop.invariant.1

pub returns-then-is_none-clause-seat : goal.returns-then-is_none-clause-seat
returns-then-is_none-clause-seat g c = seat_trans _ _ _ c.loop.invariant.2 c.take.ensures.seat

pub loop-preserved : goal.loop-preserved
loop-preserved g c = (drops_next c.take.result _ _ _ c.loop.invariant.0 c.take.ensures.taken, c.take.ensures.put ∙ c.loop.invariant.1, seat_trans _ _ _ c.loop.invariant.2 c.take.ensures.seat)

pub returns-clause-dropped : goal.returns-clause-dropped
returns-clause-dropped g c = c.loop.invariant.0

pub returns-clause-put : goal.returns-clause-put
returns-clause-put g c = c.loop.invariant.1

pub returns-clause-seat : goal.returns-clause-seat
returns-clause-seat g c = c.loop.invariant.2

pub returns-then-has_answers-clause-dropped : goal.returns-then-has_answers-clause-dropped
returns-then-has_answers-clause-dropped g c = c.loop.invariant.0

pub returns-then-has_answers-clause-put : goal.returns-then-has_answers-clause-put
returns-then-has_answers-clause-put g c = c.loop.invariant.1

pub returns-then-has_answers-clause-seat : goal.returns-then-has_answers-clause-seat
returns-then-has_answers-clause-seat g c = c.loop.invariant.2
