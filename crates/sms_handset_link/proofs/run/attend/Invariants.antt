use Rattle.sms_handset.specs.machine.InMachine.{core_in}
use Rattle.sms_handset_link.proofs.Courses.{Attending}
use Rattle.sms_handset_link.proofs.run.attend.Given as goal

abbrev pub invariant-loop-turn : goal.invariant-loop-turn
invariant-loop-turn g l =
    Attending (g.C.Clock.reads l.clock) l.fn.most l.left l._turn (g.R.Read.remaining l.fn.link_in) (g.R.Read.remaining l.link_in) l.buffer
    (core_in l.fn.machine) (core_in l.machine) (g.W.Write.contents l.fn.link_out) (g.W.Write.contents l.link_out)
