use Rattle.std.proofs.Common.{◌≡◌, ◌++◌, List, map, drop}
use Rattle.std.specs.Io.KnownBytes.{Appends}
use Rattle.sms_handset.specs.declared.event.HandsetEvent.{HandsetEvent}
use Rattle.sms_handset_link.specs.Answering.{answers_to}
use Rattle.sms_handset_link.specs.Asking.{event_of}
use Rattle.sms_handset_link.specs.Run.{Meets}
use Rattle.sms_handset_link.specs.Turns.{AreTimed}
use Rattle.sms_handset.specs.machine.InMachine.{core_in}
use Rattle.sms_handset_link.proofs.run.act_all.Given as goal

abbrev pub invariant-loop-asked : goal.invariant-loop-asked
invariant-loop-asked g l =
    (done : List HandsetEvent) × (timed : List HandsetEvent) × ((done ++ map event_of (drop l.asked-index l.acts) ≡ map event_of l.acts)
    × AreTimed (g.C.Clock.reads l.clock) done timed
    × Meets timed (core_in l.fn.machine) (core_in l.machine) (g.W.Write.contents l.fn.link) (g.W.Write.contents l.link)
    × Appends (g.A.Write.contents l.fn.answers) (g.A.Write.contents l.answers) (answers_to timed (core_in l.fn.machine)))
