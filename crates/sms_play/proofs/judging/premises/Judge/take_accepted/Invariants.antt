use Rattle.std.proofs.Common.{◌≡◌, ◌≤◌, length}
use Rattle.sms_play.specs.PlayState.{PlayState}
use Rattle.sms_play.specs.growth.Growth.{Grows}
use Rattle.sms_play.specs.judging.Judging.{KnowsTo}
use Rattle.sms_play.proofs.judging.premises.Judge.take_accepted.Given as goal

abbrev pub invariant-loop-place : goal.invariant-loop-place
invariant-loop-place g l =
    (l.place ≤ length l.self.accepted.items) × (l.self.broken ≡ l.fn.self.broken)
    × ((before after : PlayState) → g.S.Scene.represents l.scene after → Grows before after → KnowsTo 0 before after l.fn.self → KnowsTo l.place before after l.self)
