use Rattle.std.proofs.Common.{◌≡◌, ◌++◌, drop}
use Rattle.sms_play.specs.PlayState.{PlayState}
use Rattle.sms_play.specs.Playing.{accepted_lines}
use Rattle.sms_play.proofs.reporting.accepted_lines.Given as goal

abbrev pub invariant-loop-place : goal.invariant-loop-place
invariant-loop-place g l = (c : PlayState) → g.S.Scene.represents l.scene c → l.lines ++ accepted_lines (drop l.place c.parties) ≡ accepted_lines c.parties
