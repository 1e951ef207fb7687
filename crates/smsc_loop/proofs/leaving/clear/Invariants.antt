use Rattle.smsc_loop.specs.Emptying.{Owns}
use Rattle.smsc_loop.proofs.leaving.clear.Given as goal

abbrev pub invariant-loop : goal.invariant-loop
invariant-loop g l = Owns l.fn.seat.seat l.seat.seat
