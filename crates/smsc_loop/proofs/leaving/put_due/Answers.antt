use Rattle.std.proofs.Common.{◌≡◌, ◌++◌, Option, sym, ap, subst, ◌∙◌, append-nil}
use Rattle.std.specs.Prelude.{MatchBool}
use Rattle.sms_centre_spec.specs.declared.jobs.job.Job.{Job}
use Rattle.sms_seats.specs.Seats.{put_by}
use Rattle.smsc_loop.specs.Emptying.{due_of}
use Rattle.smsc_loop.proofs.Joins.{seat_same}
use Rattle.smsc_loop.proofs.Drops.{drops_none}
use Rattle.smsc_loop.proofs.leaving.put_due.Goals as goal

pub returns-in-None-clause-dropped : goal.returns-in-None-clause-dropped
returns-in-None-clause-dropped g c = drops_none _

pub returns-in-None-clause-put : goal.returns-in-None-clause-put
returns-in-None-clause-put g c =
    sym (append-nil _) ∙ ap (λ (due : Option Job). put_by c.args.seat.now.seat ++ due_of due) (sym c.in-None.is)

pub returns-in-None-clause-seat : goal.returns-in-None-clause-seat
returns-in-None-clause-seat g c = seat_same _

pub returns-in-Some-clause-dropped : goal.returns-in-Some-clause-dropped
returns-in-Some-clause-dropped g c = c.put_job.ensures.dropped

pub returns-in-Some-clause-put : goal.returns-in-Some-clause-put
returns-in-Some-clause-put g c =
    subst (λ (due : Option Job). MatchBool c.put_job.result (put_by c.put_job.new.seat.seat ≡ put_by c.args.seat.now.seat ++ due_of due)
    (g.A.Surroundings.was_over c.args.around.now × (put_by c.put_job.new.seat.seat ≡ put_by c.args.seat.now.seat))) (sym c.in-Some.is) c.put_job.ensures.put

pub returns-in-Some-clause-seat : goal.returns-in-Some-clause-seat
returns-in-Some-clause-seat g c = c.put_job.ensures.seat
