use Rattle.std.proofs.Common.{List, sym, subst}
use Rattle.std.specs.Prelude.{OnOk}
use Rattle.sms_play.specs.PlayState.{Party}
use Rattle.sms_play.specs.PlayedEvent.{party_restarted}
use Rattle.sms_player.specs.playing.Plays.{Represents}
use Rattle.sms_player.specs.playing.Places.{IsFirstAt}
use Rattle.sms_player.specs.playing.Played.{PlayingOf}
use Rattle.sms_player.proofs.playing.Showing.{party_again_as}
use Rattle.sms_player.proofs.playing.Playing.restart_handset.Goals as goal

pub returns : goal.returns
returns c = λ play party shown first.
    let now : PlayingOf = record { centre = c.self.inside.centre; parties = c.self.inside.parties.now; answers = c.self.inside.answers; given = c.self.inside.given; bag = c.self.inside.bag } in
    let was : Represents play now = subst (λ (p : PlayingOf). Represents play p) (sym c.self.view_is) shown in
    let again = c.restart_at.ensures.again party (subst (λ (ps : List Party). IsFirstAt c.args.place party ps) (sym was.parties) first) in
    subst (λ (ps : List Party). OnOk c.restart_at.result (Represents (party_restarted party play) (record now { parties = ps }))) (sym again.1.0)
    (party_again_as play now was c.args.place party first c.restart_at.result again.0 again.1.1)
