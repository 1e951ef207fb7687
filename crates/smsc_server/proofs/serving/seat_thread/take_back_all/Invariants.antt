use Rattle.std.proofs.Common.{◌≡◌}
use Rattle.smsc_arrivals.specs.Ways.{given_by, made_by, settled_at}
use Rattle.smsc_server.proofs.serving.seat_thread.take_back_all.Given as goal

abbrev pub invariant-loop : goal.invariant-loop
invariant-loop g l =
    (made_by l.giver ≡ made_by l.fn.giver) × (given_by l.giver ≡ given_by l.fn.giver) × (settled_at l.giver ≡ settled_at l.fn.giver)
