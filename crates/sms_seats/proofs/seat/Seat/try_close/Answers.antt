use Rattle.std.proofs.Common.{None}
use Rattle.crossbeam_queue.specs.Passes.{view}
use Rattle.sms_seats.specs.Jobs.{letter}
use Rattle.sms_seats.proofs.Marks.{still_last}
use Rattle.sms_seats.proofs.seat.Seat.try_close.Goals as goal

pub invariant_of-self-clause-ended : goal.invariant_of-self-clause-ended
invariant_of-self-clause-ended g c =
    still_last c.put.result (view c.args.self.now.pass) (view c.put.new.pass) (letter c.args.self.now.number None) c.requires.open c.args.self.now.ended c.put.ensures.put
