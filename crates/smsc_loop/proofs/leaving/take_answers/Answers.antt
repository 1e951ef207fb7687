use Rattle.std.proofs.Common.{refl, ◌∙◌}
use Rattle.smsc_loop.proofs.Joins.{seat_same, seat_trans}
use Rattle.smsc_loop.proofs.Drops.{drops_both, drops_none}
use Rattle.smsc_loop.proofs.leaving.take_answers.Goals as goal

pub loop-init : goal.loop-init
loop-init g c = (drops_none _, refl, seat_same _)

pub returns-then-is_over-clause-dropped : goal.returns-then-is_over-clause-dropped
returns-then-is_over-clause-dropped g c = c.loop.invariant.0

pub returns-then-is_over-clause-put : goal.returns-then-is_over-clause-put
returns-then-is_over-clause-put g c = c.loop.invariant.1

pub returns-then-is_over-clause-seat : goal.returns-then-is_over-clause-seat
returns-then-is_over-clause-seat g c = c.loop.invariant.2

pub returns-then-has_answers-clause-dropped : goal.returns-then-has_answers-clause-dropped
returns-then-has_answers-clause-dropped g c = drops_both _ _ _ c.loop.invariant.0 c.drop_awaited.ensures.dropped

pub returns-then-has_answers-clause-put : goal.returns-then-has_answers-clause-put
returns-then-has_answers-clause-put g c = c.drop_awaited.ensures.put ∙ c.loop.invariant.1

pub returns-then-has_answers-clause-seat : goal.returns-then-has_answers-clause-seat
returns-then-has_answers-clause-seat g c = seat_trans _ _ _ c.loop.invariant.2 c.drop_awaited.ensures.seat

pub loop-preserved : goal.loop-preserved
loop-preserved g c = (drops_both _ _ _ c.loop.invariant.0 c.drop_awaited.ensures.dropped, c.drop_awaited.ensures.put ∙ c.loop.invariant.1, seat_trans _ _ _ c.loop.invariant.2 c.drop_awaited.ensures.seat)

pub returns-clause-dropped : goal.returns-clause-dropped
returns-clause-dropped g c = c.loop.invariant.0

pub returns-clause-put : goal.returns-clause-put
returns-clause-put g c = c.loop.invariant.1

pub returns-clause-seat : goal.returns-clause-seat
returns-clause-seat g c = c.loop.invariant.2
