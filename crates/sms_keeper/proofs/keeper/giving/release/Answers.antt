use Rattle.sms_seats.proofs.Seating.{same_trans}
use Rattle.sms_keeper.proofs.Histories.{ran_alike}
use Rattle.sms_keeper.proofs.Holdings.{gave_all_more, told_more}
use Rattle.sms_keeper.proofs.keeper.giving.release.Goals as goal

pub loop-item-preserved : goal.loop-item-preserved
loop-item-preserved g c = let l = c.loop-item.invariant in let h = c.give_item.ensures in record {
  same = same_trans c.args.queues.now c.loop-item.queues c.give_item.new.queues l.same h.same;
  ran = ran_alike c.args.queues.now c.loop-item.queues c.give_item.new.queues l.ran h.ran;
  given = gave_all_more c.args.is_committed c.args.queues.now c.loop-item.queues c.give_item.new.queues c.loop-item.yielded c.in-Some.item c.into_item.result c.into_item.ensures l.same l.given h.given;
  told = λ told has. told_more c.args.is_committed c.loop-item.yielded c.in-Some.item c.into_item.result c.into_item.ensures told (g.B.Recorder.has c.give_item.new.recorder) (h.told _ (l.told told has));
}
