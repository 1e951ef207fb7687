use Rattle.std.proofs.Common.{sym, subst}
use Rattle.sms_play.specs.CentreSide.{committed}
use Rattle.sms_player.specs.playing.Plays.{Represents}
use Rattle.sms_player.specs.playing.Played.{PlayingOf}
use Rattle.sms_player.proofs.playing.Showing.{frames_sent}
use Rattle.sms_player.proofs.playing.Playing.send.Goals as goal

pub returns-clause-represents : goal.returns-clause-represents
returns-clause-represents c = λ play d shown same.
    frames_sent play _ d (subst (λ (p : PlayingOf). Represents (committed d play) p) (sym c.self.view_is) shown) c.args.outputs.frames c.send_down.new.bag same c.in_ok-send_down.ensures
