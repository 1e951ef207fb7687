use Rattle.smsc_loop.specs.Courses.{Did, standing}
use Rattle.smsc_loop.specs.Phases.{Serves}
use Rattle.smsc_loop.proofs.serving.stay.Given as goal

abbrev pub invariant-loop : goal.invariant-loop
invariant-loop g l =
    Did g.G.Endpoint.does (standing l.fn.endpoint Serves (g.W.Wire.remaining l.fn.wire) (g.W.Wire.written l.fn.wire) l.fn.seat.seat)
    (standing l.endpoint Serves (g.W.Wire.remaining l.wire) (g.W.Wire.written l.wire) l.seat.seat)
