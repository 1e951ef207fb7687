use Rattle.std.proofs.Common.{true, false, refl}
use Rattle.smsc_loop.specs.Phases.{behind}
use Rattle.smsc_loop.specs.Calls.{Heard, Refused}
use Rattle.smsc_loop.proofs.Counting.{due_as}
use Rattle.smsc_loop.proofs.Joins.{did_seat, did_ask, did_refused, unchanged}
use Rattle.smsc_loop.proofs.putting.hear_next.Goals as goal

pub returns-then-is_ahead : goal.returns-then-is_ahead
returns-then-is_ahead g c = λ p a w l.
    did_seat g.G.Endpoint.does (Refused c.in-Some.reply) _ _ p (behind false p) a w _ _ refl refl refl (l, refl)
    c.in-Some.ensures.taken (unchanged _ _ c.take.ensures.put) c.take.ensures.seat
    (due_as _ _ _ _ c.in-Some.reply c.is_ahead.result true c.is_ahead.ensures c.take.ensures.put c.in-Some.ensures.taken c.if-is_ahead.true)

pub returns-in_err-take_reply-in-Some : goal.returns-in_err-take_reply-in-Some
returns-in_err-take_reply-in-Some g c = λ p a w l.
    did_refused g.G.Endpoint.does _ c.from_residual.result c.from_residual.ensures.1 _ _ p a w _
    (did_seat g.G.Endpoint.does (Heard c.in-Some.reply false) _ _ p (behind false p) a w _ _ refl refl c.in_err-take_reply-in-Some.ensures.heard (l, refl)
    c.in-Some.ensures.taken (unchanged _ _ c.take.ensures.put) c.take.ensures.seat
    (due_as _ _ _ _ c.in-Some.reply c.is_ahead.result false c.is_ahead.ensures c.take.ensures.put c.in-Some.ensures.taken c.if-is_ahead.false))

pub returns-in_ok-take_reply-in-Some : goal.returns-in_ok-take_reply-in-Some
returns-in_ok-take_reply-in-Some g c = λ p a w l.
    did_seat g.G.Endpoint.does (Heard c.in-Some.reply true) _ _ p p a w _ _ refl refl c.in_ok-take_reply-in-Some.ensures.heard (l, refl)
    c.in-Some.ensures.taken (unchanged _ _ c.take.ensures.put) c.take.ensures.seat
    (due_as _ _ _ _ c.in-Some.reply c.is_ahead.result false c.is_ahead.ensures c.take.ensures.put c.in-Some.ensures.taken c.if-is_ahead.false)

pub returns-in-None : goal.returns-in-None
returns-in-None g c = λ p a w l. did_ask g.G.Endpoint.does _ p a w _ _ c.in-None.ensures.taken c.take.ensures.put c.take.ensures.seat
