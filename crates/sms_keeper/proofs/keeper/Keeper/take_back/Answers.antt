use Rattle.std.proofs.Common.{refl}
use Rattle.sms_seats.specs.Seats.{number_of, put_by}
use Rattle.sms_keeper.specs.Keeping.{ran_by}
use Rattle.sms_keeper.proofs.Wholes.{all_run}
use Rattle.sms_keeper.proofs.keeper.Keeper.take_back.Goals as goal

pub returns-clause-keeper : goal.returns-clause-keeper
returns-clause-keeper g c = let h = c.take_back.ensures.queues in record { hub = h.queues; ran = h.ran; given = h.given; last = refl }

pub returns-clause-run : goal.returns-clause-run
returns-clause-run g c end = all_run (number_of c.args.seat) (put_by c.args.seat) (ran_by c.args.self.now) (c.take_back.ensures.ended end)
