use Rattle.std.proofs.Common.{List, sym, subst}
use Rattle.std.specs.Prelude.{IfOk}
use Rattle.sms_play.specs.PlayState.{Party}
use Rattle.sms_play.specs.HandsetSide.{happened}
use Rattle.sms_player.specs.playing.Plays.{Represents}
use Rattle.sms_player.specs.playing.Places.{IsFirstAt}
use Rattle.sms_player.specs.playing.Played.{PlayingOf}
use Rattle.sms_player.specs.playing.Playing.{MeetsAs}
use Rattle.sms_player.proofs.playing.Showing.{meets_as}
use Rattle.sms_player.proofs.playing.Playing.commit_handset.Goals as goal

pub returns-clause-meets : goal.returns-clause-meets
returns-clause-meets c = λ play party shown first.
    let now : PlayingOf = record { centre = c.self.inside.centre; parties = c.self.inside.parties.now; answers = c.self.inside.answers; given = c.self.inside.given; bag = c.self.inside.bag } in
    let was : Represents play now = subst (λ (p : PlayingOf). Represents play p) (sym c.self.view_is) shown in
    let met = c.meet_at.ensures.meets party (subst (λ (ps : List Party). IsFirstAt c.args.place party ps) (sym was.parties) first) in
    subst (λ (ps : List Party). IfOk c.meet_at.result (λ m. MeetsAs m party play (record now { parties = ps; given = c.meet_at.new.given }) (happened c.args.happening.now party.core))) (sym met.1.0)
    (meets_as play now was c.args.place party first c.meet_at.result met.0 c.meet_at.new.given (happened c.args.happening.now party.core) met.1.1)
