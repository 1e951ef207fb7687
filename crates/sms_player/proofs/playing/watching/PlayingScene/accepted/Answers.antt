use Rattle.std.proofs.Common.{◌∙◌, ap, length, List, sym}
use Rattle.std.proofs.lemmas.Bool.{ltb-false}
use Rattle.sms_play.specs.judging.Premises.{accepted_at}
use Rattle.sms_play.specs.PlayState.{Party}
use Rattle.sms_player.specs.playing.Played.{PlayingOf}
use Rattle.sms_player.proofs.playing.Scenes.{accepted_is, none_accepted}
use Rattle.sms_player.proofs.playing.watching.PlayingScene.accepted.Goals as goal

pub returns-in-Some : goal.returns-in-Some
returns-in-Some c = λ play shown.
    c.accepted.ensures ∙ accepted_is c.args.place c.self.inside.parties.now c.in-Some.party.now c.in-Some.ensures.lookup.3.1
    ∙ ap (λ (p : PlayingOf). accepted_at c.args.place p.parties) c.self.view_is ∙ ap (λ (ps : List Party). accepted_at c.args.place ps) shown.parties

pub returns-in-None : goal.returns-in-None
returns-in-None c = λ play shown.
    none_accepted c.args.place c.self.inside.parties.now (ltb-false c.args.place (length c.self.inside.parties.now) (sym c.in-None.ensures.lookup.0))
    ∙ ap (λ (p : PlayingOf). accepted_at c.args.place p.parties) c.self.view_is ∙ ap (λ (ps : List Party). accepted_at c.args.place ps) shown.parties
