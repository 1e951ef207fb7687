use Rattle.std.proofs.Common.{◌∙◌, ap}
use Rattle.sms_play.specs.PlayState.{Party}
use Rattle.sms_player.proofs.playing.Placed.{first_is}
use Rattle.sms_player.proofs.playing.places.number_at.Goals as goal

pub returns : goal.returns
returns c = λ party first. c.number.ensures ∙ ap (λ (p : Party). p.number) (first_is c.args.place party c.index-parties-place.result c.args.parties.now first c.index-parties-place.is)
