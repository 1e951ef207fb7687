use Rattle.std.proofs.Common.{true, false, refl, sym, subst}
use Rattle.smsc_loop.specs.Phases.{behind}
use Rattle.smsc_loop.specs.Calls.{Put, PutBack}
use Rattle.sms_centre_spec.specs.declared.jobs.job.Job.{Job}
use Rattle.smsc_loop.proofs.Joins.{did_none, did_seat, did_same, did_refused, unchanged}
use Rattle.smsc_loop.proofs.Ended.{may_be_put}
use Rattle.smsc_loop.proofs.putting.put_next.Goals as goal

pub returns-then-not-has_turn : goal.returns-then-not-has_turn
returns-then-not-has_turn g c = λ p a w l k. did_none g.G.Endpoint.does _ p a w _

pub returns-in_default : goal.returns-in_default
returns-in_default g c = λ p a w l k. did_same g.G.Endpoint.does _ _ p a w _ c.in_default.ensures.handed

pub returns-in-Ok : goal.returns-in-Ok
returns-in-Ok g c = λ p a w l k.
    did_seat g.G.Endpoint.does (Put c.in-Some.job) _ _ p p a w _ _ refl refl c.in-Some.ensures.handed
    (l, refl, may_be_put p c.in-Some.job c.args.has_ended c.may_put-may_put.result k c.may_put-may_put.ensures.ended c.in-Ok.ensures.allowed)
    (unchanged _ _ c.offer.ensures.taken) c.in-Ok.ensures.put c.offer.ensures.seat tt

pub returns-in_ok-again-in-Err : goal.returns-in_ok-again-in-Err
returns-in_ok-again-in-Err g c = λ p a w l k.
    did_seat g.G.Endpoint.does (PutBack c.in-Err.back c.in_ok-again-in-Err.again true) _ _ p p a w _ _ refl refl (c.in_ok-again-in-Err.ensures.back _
    (subst (λ (job : Job). g.G.Endpoint.does (Put job) c.args.endpoint.now c.next_job.new.self) (sym c.in-Err.ensures.put.0) c.in-Some.ensures.handed)) (l, refl)
    (unchanged _ _ c.offer.ensures.taken) (unchanged _ _ c.in-Err.ensures.put.1) c.offer.ensures.seat tt

pub returns-in_err-again-in-Err : goal.returns-in_err-again-in-Err
returns-in_err-again-in-Err g c = λ p a w l k.
    did_refused g.G.Endpoint.does _ c.from_residual.result c.from_residual.ensures.1 _ _ p a w _
    (did_seat g.G.Endpoint.does (PutBack c.in-Err.back false false) _ _ p (behind false p) a w _ _ refl refl (c.in_err-again-in-Err.ensures.back _
    (subst (λ (job : Job). g.G.Endpoint.does (Put job) c.args.endpoint.now c.next_job.new.self) (sym c.in-Err.ensures.put.0) c.in-Some.ensures.handed)) (l, refl)
    (unchanged _ _ c.offer.ensures.taken) (unchanged _ _ c.in-Err.ensures.put.1) c.offer.ensures.seat tt)
