use Rattle.std.proofs.Common.{◌∙◌, ap, length, List}
use Rattle.sms_play.specs.PlayState.{Party}
use Rattle.sms_player.specs.playing.Played.{PlayingOf}
use Rattle.sms_player.proofs.playing.watching.PlayingScene.handsets.Goals as goal

pub returns : goal.returns
returns c = λ play shown. ap (λ (p : PlayingOf). length p.parties) c.self.view_is ∙ ap (λ (ps : List Party). length ps) shown.parties
