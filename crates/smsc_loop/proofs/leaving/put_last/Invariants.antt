use Rattle.std.proofs.Common.{ℕ, List, Option}
use Rattle.sms_centre_spec.specs.declared.jobs.job.Job.{Job}
use Rattle.smsc_loop.specs.Courses.{Did, standing}
use Rattle.smsc_loop.specs.Phases.{Leaves}
use Rattle.smsc_loop.proofs.leaving.put_last.Given as goal

abbrev pub invariant-loop : goal.invariant-loop
invariant-loop g l =
    (due : Option Job) (a w : Option (List ℕ))
    → Did g.G.Endpoint.does (standing l.fn.endpoint (Leaves due) a w l.fn.seat.seat) (standing l.endpoint (Leaves due) a w l.seat.seat)
