use Rattle.std.proofs.Common.{◌≡◌, ◌++◌, ◌+◌, length, true}
use Rattle.std.specs.Vec.Iter.{into_iter_items}
use Rattle.sms_keeper.specs.History.{each_seat, for_seat, work}
use Rattle.sms_keeper.specs.Keeping.{given_by, ran_by}
use Rattle.sms_hub.specs.Running.{AreAt, jobs_for, lists_of}
use Rattle.sms_keeper.specs.Seating.{IsUnchanged}
use Rattle.sms_hub.proofs.run.many.settle_all.Given as goal

abbrev pub invariant-loop-thread : goal.invariant-loop-thread
invariant-loop-thread g l = record {
  keeper : IsUnchanged l.fn.keeper l.keeper;
  ready : AreAt l.fn.keeper (length l.yielded) (into_iter_items l.thread-iterator);
  count : length l.yielded + length (into_iter_items l.thread-iterator) ≡ length l.fn.threads.items;
  answers : l.whole ≡ true → lists_of l.all.items ≡ each_seat (length l.yielded) (given_by l.fn.keeper);
  jobs : l.whole ≡ true → each_seat (length l.yielded) (λ n. for_seat n (work (ran_by l.fn.keeper))) ++ jobs_for (into_iter_items l.thread-iterator) ≡ jobs_for l.fn.threads.items;
}
