use Rattle.sms_seats.proofs.Seating.{same_trans}
use Rattle.sms_keeper.proofs.Histories.{gave_more, ran_alike}
use Rattle.sms_keeper.proofs.keeper.giving.give_all.Goals as goal

pub loop-out-preserved : goal.loop-out-preserved
loop-out-preserved g c = let l = c.loop-out.invariant in record {
  same = same_trans c.args.queues.now c.loop-out.queues c.give_one.new.queues l.same c.give_one.ensures.same;
  ran = ran_alike c.args.queues.now c.loop-out.queues c.give_one.new.queues l.ran c.give_one.ensures.ran;
  given = gave_more c.args.queues.now c.loop-out.queues c.give_one.new.queues c.loop-out.yielded c.in-Some.out l.same l.given c.give_one.ensures.given;
}
