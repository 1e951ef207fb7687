use Rattle.std.proofs.Common.{◌∙◌, ap}
use Rattle.sms_player.specs.playing.Played.{PlayingOf}
use Rattle.sms_player.proofs.playing.watching.PlayingScene.bag.Goals as goal

pub returns-clause-bag : goal.returns-clause-bag
returns-clause-bag c = λ play shown. ap (λ (p : PlayingOf). p.bag) c.self.view_is ∙ shown.bag

pub returns-clause-numbered : goal.returns-clause-numbered
returns-clause-numbered c = λ play shown. shown.numbered
