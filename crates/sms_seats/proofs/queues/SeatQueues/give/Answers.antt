use Rattle.std.proofs.Common.{refl, arith}
use Rattle.sms_seats.proofs.Lines.{given_one, given_past, same_set}
use Rattle.sms_seats.proofs.queues.SeatQueues.give.Goals as goal

pub returns-then-seat-len-clause-same : goal.returns-then-seat-len-clause-same
returns-then-seat-len-clause-same g c = let us = c.args.self.now.lines.items in (refl, same_set us us _ c.index_mut.result.now c.give.new.self refl c.index_mut.ensures.value c.give.ensures.same)

pub returns-then-seat-len-clause-given : goal.returns-then-seat-len-clause-given
returns-then-seat-len-clause-given g c n less = given_one c.args.self.now.lines.items c.args.seat c.index_mut.result.now c.give.new.self c.args.answer (let e = c.if-seat-len.true in let f = c.len.ensures in omega arith)
    c.index_mut.ensures.value c.give.ensures.given n

pub returns-else-seat-len-clause-given : goal.returns-else-seat-len-clause-given
returns-else-seat-len-clause-given g c n less = given_past c.args.self.now.lines.items c.args.seat c.args.answer (let e = c.if-seat-len.false in let f = c.len.ensures in omega arith) n less
