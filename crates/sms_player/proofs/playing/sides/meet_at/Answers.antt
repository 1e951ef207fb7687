use Rattle.std.proofs.Common.{◌∙◌, refl, sym, subst}
use Rattle.sms_play.specs.PlayState.{Party}
use Rattle.sms_play.specs.HandsetSide.{happened}
use Rattle.sms_player_handset.specs.Meeting.{Meets}
use Rattle.sms_player.proofs.playing.Placed.{first_is}
use Rattle.sms_player.proofs.playing.sides.meet_at.Goals as goal

pub returns-clause-meets : goal.returns-clause-meets
returns-clause-meets c = λ party first.
    (c.meet.new.self, (refl, subst (λ (p : Party). Meets c.meet.result p c.meet.new.self c.args.given.now c.meet.new.given (happened c.args.happening.now p.core)) (sym c.index-parties-place.is ∙ first_is c.args.place party c.index-parties-place.result c.args.parties.now first c.index-parties-place.is) c.meet.ensures))
