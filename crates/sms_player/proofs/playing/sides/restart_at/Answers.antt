use Rattle.std.proofs.Common.{◌≡◌, ◌∙◌, refl, sym, subst}
use Rattle.std.specs.Prelude.{OnOk}
use Rattle.sms_handset_draft.specs.Draft.{recovered}
use Rattle.sms_play.specs.PlayState.{Party}
use Rattle.sms_player.proofs.playing.Placed.{first_is}
use Rattle.sms_player.proofs.playing.sides.restart_at.Goals as goal

pub returns-clause-again : goal.returns-clause-again
returns-clause-again c = λ party first.
    (c.restart.new.self, (refl, subst (λ (p : Party). OnOk c.restart.result (c.restart.new.self ≡ record p { core = recovered p.core.rows })) (sym c.index-parties-place.is ∙ first_is c.args.place party c.index-parties-place.result c.args.parties.now first c.index-parties-place.is) c.restart.ensures))
