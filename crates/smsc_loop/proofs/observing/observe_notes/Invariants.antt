use Rattle.std.proofs.Common.{ℕ, List, Option}
use Rattle.sms_centre_spec.specs.declared.jobs.job.Job.{Job}
use Rattle.sms_centre_spec.specs.declared.jobs.reply.Reply.{Reply}
use Rattle.sms_seats.specs.declared.seat.Seat.{Seat}
use Rattle.smsc_loop.specs.Courses.{Did, standing}
use Rattle.smsc_loop.specs.Phases.{Phase}
use Rattle.smsc_loop.proofs.observing.observe_notes.Given as goal

abbrev pub invariant-loop : goal.invariant-loop
invariant-loop g l =
    (p : Phase) (a w : Option (List ℕ)) (s : Seat Job Reply) → Did g.G.Endpoint.does (standing l.fn.endpoint p a w s) (standing l.endpoint p a w s)
