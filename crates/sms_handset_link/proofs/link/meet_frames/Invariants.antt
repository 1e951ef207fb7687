use Rattle.std.proofs.Common.{◌≡◌, ◌++◌, ◌+◌, ℕ, List, length, map}
use Rattle.sms_link.specs.framing.Framing.{joined}
use Rattle.sms_handset_link.specs.Run.{Meets, received}
use Rattle.sms_handset.specs.machine.InMachine.{core_in}
use Rattle.sms_handset_link.proofs.link.meet_frames.Given as goal

abbrev pub invariant-loop-left : goal.invariant-loop-left
invariant-loop-left g l =
    (frames : List (List ℕ)) × ((l.fn.buffer ≡ joined frames ++ l.buffer)
    × Meets (map received frames) (core_in l.fn.machine) (core_in l.machine) (g.W.Write.contents l.fn.link) (g.W.Write.contents l.link)
    × (length frames + l.left ≡ l.fn.most))

abbrev pub decreases-loop-left : goal.decreases-loop-left
decreases-loop-left g l = l.left
