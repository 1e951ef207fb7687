use Rattle.std.proofs.Common.{sym, subst}
use Rattle.sms_player.specs.playing.Plays.{Represents}
use Rattle.sms_player.specs.playing.Played.{PlayingOf}
use Rattle.sms_player.proofs.playing.Playing.accept.Goals as goal

pub returns-clause-represents : goal.returns-clause-represents
returns-clause-represents c = λ play shown. c.in_ok-heard.ensures.represents play (subst (λ (p : PlayingOf). Represents play p) (sym c.self.view_is) shown)

pub returns-clause-more : goal.returns-clause-more
returns-clause-more c = λ play shown. c.in_ok-heard.ensures.deliveries play (subst (λ (p : PlayingOf). Represents play p) (sym c.self.view_is) shown)
