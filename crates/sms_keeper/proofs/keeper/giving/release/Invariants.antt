use Rattle.std.proofs.Common.{◌≡◌, List, ◌++◌}
use Rattle.sms_seats.specs.Queues.{ran_by, IsSameQueues}
use Rattle.sms_keeper.specs.declared.machine.Item.{Item}
use Rattle.sms_keeper.specs.Groups.{as_items}
use Rattle.sms_keeper.specs.Keeping.{GaveAll}
use Rattle.sms_keeper.proofs.keeper.giving.release.Given as goal

abbrev pub invariant-loop-item : goal.invariant-loop-item
invariant-loop-item g l = record {
  same : IsSameQueues l.initial.queues l.queues;
  ran : ran_by l.queues ≡ ran_by l.initial.queues;
  given : GaveAll l.initial.queues l.queues (as_items l.is_committed l.yielded);
  told : (told : List (Item g.row.J.Denot g.row.O.Denot)) → g.B.Recorder.has l.initial.recorder told → g.B.Recorder.has l.recorder (told ++ as_items l.is_committed l.yielded);
}
