use Rattle.std.proofs.Common.{sym, subst}
use Rattle.sms_player.specs.playing.Plays.{Represents}
use Rattle.sms_player.specs.playing.Played.{PlayingOf}
use Rattle.sms_player.proofs.playing.Outcomes.{restarted_as}
use Rattle.sms_player.proofs.playing.Playing.restart_centre.Goals as goal

pub returns : goal.returns
returns c = λ play shown.
    let was = subst (λ (p : PlayingOf). Represents play p) (sym c.self.view_is) shown in
    restarted_as play _ was c.restart.result c.restart.new.self (c.restart.ensures.played play.centre was.centre) c.restart.ensures.handsets
