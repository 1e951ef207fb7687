use Rattle.std.proofs.Common.{◌≡◌, ◌++◌}
use Rattle.crossbeam_queue.specs.Passes.{view, IsPassOf, IsSamePass}
use Rattle.sms_seats.specs.Answers.{joined_view}
use Rattle.sms_seats.proofs.answers.empty.Given as goal

abbrev pub invariant-loop : goal.invariant-loop
invariant-loop g l = record {
  queue : IsPassOf l.queue l.pass;
  same : IsSamePass l.fn.pass l.pass;
  taken : view l.pass ≡ joined_view (view l.fn.pass).given ((view l.fn.pass).taken ++ l.rest.items);
}
