use Rattle.std.proofs.Common.{refl, ◌∙◌, inl}
use Rattle.smsc_loop.proofs.Joins.{seat_trans}
use Rattle.smsc_loop.proofs.Drops.{drops_both, own_first, put_one}
use Rattle.smsc_loop.proofs.leaving.put_own.Goals as goal

pub returns-then-put_job-clause-dropped : goal.returns-then-put_job-clause-dropped
returns-then-put_job-clause-dropped g c = drops_both _ _ _ c.put_job.ensures.dropped (drops_both _ _ _ c.take_answers.ensures.dropped c.clear.ensures.owns.1)

pub returns-then-put_job-clause-put : goal.returns-then-put_job-clause-put
returns-then-put_job-clause-put g c =
    own_first (g.A.Surroundings.was_over c.args.around.now) c.args.seat.now.seat c.take_answers.new.seat.seat c.clear.new.seat.seat
    (c.take_answers.ensures.put ∙ put_one _ _ _ c.own_job.result _ refl c.if-put_job.ensures.put c.own_job.ensures) c.clear.ensures.owns c.clear.ensures.cleared

pub returns-then-put_job-clause-seat : goal.returns-then-put_job-clause-seat
returns-then-put_job-clause-seat g c = seat_trans _ _ _ c.put_job.ensures.seat (seat_trans _ _ _ c.take_answers.ensures.seat c.clear.ensures.owns.0)

pub returns-else-put_job-clause-dropped : goal.returns-else-put_job-clause-dropped
returns-else-put_job-clause-dropped g c = c.put_job.ensures.dropped

pub returns-else-put_job-clause-put : goal.returns-else-put_job-clause-put
returns-else-put_job-clause-put g c = inl c.if-put_job.ensures.put

pub returns-else-put_job-clause-seat : goal.returns-else-put_job-clause-seat
returns-else-put_job-clause-seat g c = c.put_job.ensures.seat
