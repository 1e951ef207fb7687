use Rattle.std.proofs.Common.{ℕ, List, Option}
use Rattle.smsc_loop.specs.Courses.{Did, standing}
use Rattle.smsc_loop.specs.Phases.{Phase, KnowsEnd, Listens}
use Rattle.smsc_loop.proofs.putting.put_jobs.Given as goal

abbrev pub invariant-loop : goal.invariant-loop
invariant-loop g l =
    (p : Phase) (a w : Option (List ℕ)) → Listens p → KnowsEnd p l.has_ended
    → Did g.G.Endpoint.does (standing l.fn.endpoint p a w l.fn.seat.seat) (standing l.endpoint p a w l.seat.seat)
