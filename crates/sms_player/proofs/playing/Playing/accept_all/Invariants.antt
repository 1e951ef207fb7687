use Rattle.std.proofs.Common.{length}
use Rattle.sms_centre_spec.specs.Draft.{Draft}
use Rattle.sms_play.specs.PlayState.{PlayState}
use Rattle.sms_player.specs.playing.Plays.{Represents}
use Rattle.sms_player.proofs.playing.Outcomes.{Accepts}
use Rattle.sms_player.proofs.playing.Playing.accept_all.Given as goal

abbrev pub invariant-loop-place : goal.invariant-loop-place
invariant-loop-place l = (c : PlayState) (d : Draft) → Represents c l.fn.self → Accepts d (length c.centre.rows.reports) l.fn.deliveries c l.most l.place l.waiting.items l.self
