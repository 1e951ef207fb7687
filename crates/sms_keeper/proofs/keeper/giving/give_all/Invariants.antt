use Rattle.std.proofs.Common.{◌≡◌}
use Rattle.sms_seats.specs.Queues.{ran_by, IsSameQueues}
use Rattle.sms_keeper.specs.Keeping.{Gave}
use Rattle.sms_keeper.proofs.keeper.giving.give_all.Given as goal

abbrev pub invariant-loop-out : goal.invariant-loop-out
invariant-loop-out g l = record {
  same : IsSameQueues l.initial.queues l.queues;
  ran : ran_by l.queues ≡ ran_by l.initial.queues;
  given : Gave l.initial.queues l.queues l.yielded;
}
