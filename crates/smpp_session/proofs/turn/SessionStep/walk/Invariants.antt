use Rattle.std.proofs.Common.{◌≡◌, ◌≤◌, ◌-◌, [], length, drop}
use Rattle.smpp_session.specs.SessionRun.{stream}
use Rattle.smpp_session.proofs.turn.SessionStep.walk.Given as goal

abbrev pub invariant-loop-self : goal.invariant-loop-self
invariant-loop-self l =
    record {
      within : l.done ≤ length l.octets;
      left : stream l.accounts (l.fn.self, []) l.octets ≡ stream l.accounts (l.self, []) (drop l.done l.octets);
    }

abbrev pub decreases-loop-self : goal.decreases-loop-self
decreases-loop-self l = length l.octets - l.done
