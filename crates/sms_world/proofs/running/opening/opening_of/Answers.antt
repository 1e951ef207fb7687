use Rattle.std.proofs.Common.{◌∙◌, ap, List, ℕ, sym, subst}
use Rattle.sms_player.specs.heads.Heads.{AreHandsets}
use Rattle.sms_play.specs.PlayState.{Party, numbers_of}
use Rattle.sms_world.proofs.running.opening.opening_of.Goals as goal

pub returns-clause-handsets : goal.returns-clause-handsets
returns-clause-handsets c =
    subst (λ (hs : List (List ℕ)). AreHandsets hs) (sym (c.in_ok-handsets.ensures ∙ ap (λ (ps : List Party). numbers_of ps) c.requires.parties))
    (c.handsets_can_have_links.ensures c.args.setup.now c.requires.setup)
