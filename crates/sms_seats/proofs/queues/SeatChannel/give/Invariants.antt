use Rattle.std.proofs.Common.{◌≡◌}
use Rattle.crossbeam_queue.specs.Passes.{view}
use Rattle.sms_seats.proofs.queues.SeatChannel.give.Given as goal

abbrev pub invariant-loop : goal.invariant-loop
invariant-loop g l = record {
  left : l.left ≡ l.fn.answer;
  same : l.self.pass.table_id ≡ l.fn.self.pass.table_id;
  given : (view l.self.pass).given ≡ (view l.fn.self.pass).given;
}
