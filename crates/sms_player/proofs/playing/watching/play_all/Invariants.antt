use Rattle.std.proofs.Common.{Option}
use Rattle.sms_play.specs.PlayState.{PlayState}
use Rattle.sms_player.specs.playing.Plays.{Represents}
use Rattle.sms_player.proofs.playing.LookingOn.{Looks}
use Rattle.sms_player.proofs.playing.Turning.{Plays}
use Rattle.sms_script.specs.declared.report.Broken.{Broken}
use Rattle.sms_player.proofs.playing.watching.play_all.Given as goal

abbrev pub invariant-loop-place : goal.invariant-loop-place
invariant-loop-place g l =
    ((c : PlayState) → Represents c l.fn.playing → Plays l.events c l.place l.playing)
    × ((c : PlayState) (broken : Option Broken) → Represents c l.fn.playing → g.W.Watcher.has_seen l.fn.watcher broken c → Looks (g.W.Watcher.has_seen l.watcher) l.events c broken l.place l.playing)
