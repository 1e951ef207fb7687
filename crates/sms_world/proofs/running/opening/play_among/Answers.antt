use Rattle.std.proofs.Common.{◌∙◌, ap, List, ℕ, sym, subst}
use Rattle.sms_play.specs.PlayState.{Party, numbers_of}
use Rattle.sms_player.specs.heads.Heads.{AreHandsets}
use Rattle.sms_world.proofs.running.opening.play_among.Goals as goal

pub play_from-requires-clause-handsets : goal.play_from-requires-clause-handsets
play_from-requires-clause-handsets g c = subst (λ (hs : List (List ℕ)). AreHandsets hs) (sym c.as_slice-in-Ok.ensures.value) c.in-Ok.ensures.handsets

pub returns-in-Ok-clause-report : goal.returns-in-Ok-clause-report
returns-in-Ok-clause-report g c =
    c.play_from.ensures.report c.args.setup.now c.in-Ok.ensures.made
    (c.as_slice-in-Ok.ensures.value ∙ c.in-Ok.ensures.numbers ∙ ap (λ (ps : List Party). numbers_of ps) (c.as_slice.ensures.value ∙ c.requires.parties))
    (c.as_mut_slice.ensures.value ∙ c.requires.parties)

pub returns-in-Ok-clause-verdict : goal.returns-in-Ok-clause-verdict
returns-in-Ok-clause-verdict g c = λ seen.
    c.play_from.ensures.verdict c.args.setup.now c.in-Ok.ensures.made
    (c.as_slice-in-Ok.ensures.value ∙ c.in-Ok.ensures.numbers ∙ ap (λ (ps : List Party). numbers_of ps) (c.as_slice.ensures.value ∙ c.requires.parties))
    (c.as_mut_slice.ensures.value ∙ c.requires.parties) seen
