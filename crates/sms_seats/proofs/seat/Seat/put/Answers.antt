use Rattle.std.proofs.Common.{Some, ap}
use Rattle.crossbeam_queue.specs.Passes.{view}
use Rattle.sms_seats.specs.Jobs.{letter}
use Rattle.sms_seats.proofs.Marks.{open_more}
use Rattle.sms_seats.proofs.Marks.{still_last}
use Rattle.sms_seats.proofs.seat.Seat.put.Goals as goal

pub invariant_of-self-clause-ended : goal.invariant_of-self-clause-ended
invariant_of-self-clause-ended g c =
    still_last c.put.result (view c.args.self.now.pass) (view c.put.new.pass) (letter c.args.self.now.number (Some c.args.job)) c.requires.open c.args.self.now.ended c.put.ensures.put

pub returns-in-Ok-clause-open : goal.returns-in-Ok-clause-open
returns-in-Ok-clause-open g c = open_more (view c.args.self.now.pass).put (view c.put.new.pass).put c.args.job c.requires.open (ap (λ v. v.put) c.in-Ok.ensures.put)
