use Rattle.std.proofs.Common.{refl}
use Rattle.smsc_loop.proofs.Joins.{seat_same}
use Rattle.smsc_loop.proofs.putting.offer.Goals as goal

pub returns-then-not-may_put-clause-seat : goal.returns-then-not-may_put-clause-seat
returns-then-not-may_put-clause-seat g c = seat_same _

pub returns-then-not-may_put-clause-taken : goal.returns-then-not-may_put-clause-taken
returns-then-not-may_put-clause-taken g c = refl

pub returns-then-not-may_put-clause-put : goal.returns-then-not-may_put-clause-put
returns-then-not-may_put-clause-put g c = (refl, refl)

pub returns-clause-seat : goal.returns-clause-seat
returns-clause-seat g c = c.put.ensures.seat

pub returns-clause-taken : goal.returns-clause-taken
returns-clause-taken g c = c.put.ensures.taken

pub returns-clause-put : goal.returns-clause-put
returns-clause-put g c = c.put.ensures.put
