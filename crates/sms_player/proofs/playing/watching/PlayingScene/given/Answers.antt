use Rattle.std.proofs.Common.{◌∙◌, ap}
use Rattle.sms_player.specs.playing.Played.{PlayingOf}
use Rattle.sms_player.proofs.playing.watching.PlayingScene.given.Goals as goal

pub returns : goal.returns
returns c = λ play shown. c.as_slice.ensures ∙ ap (λ (p : PlayingOf). p.given) c.self.view_is ∙ shown.given
