use Rattle.std.proofs.Common.{sym, subst}
use Rattle.sms_centre_spec.specs.CentreEvent.{happened}
use Rattle.sms_player.specs.playing.Plays.{Represents}
use Rattle.sms_player.specs.playing.Played.{PlayingOf}
use Rattle.sms_player.proofs.playing.Showing.{centre_committed}
use Rattle.sms_player.proofs.playing.Playing.commit_centre.Goals as goal

pub returns-clause-represents : goal.returns-clause-represents
returns-clause-represents c = λ play shown.
    let was = subst (λ (p : PlayingOf). Represents play p) (sym c.self.view_is) shown in
    centre_committed play _ was (happened c.args.happening.now play.centre) c.meet.new.self c.meet.new.given
    (c.in_ok-outputs.ensures.played play.centre was.centre) c.in_ok-outputs.ensures.handsets (c.in_ok-outputs.ensures.given play.centre was.centre)

pub returns-clause-outputs : goal.returns-clause-outputs
returns-clause-outputs c = λ play shown.
    let was = subst (λ (p : PlayingOf). Represents play p) (sym c.self.view_is) shown in
    let outputs = c.in_ok-outputs.ensures.outputs play.centre was.centre in
    record { frames = outputs.frames; answer = outputs.answer; deliveries = outputs.deliveries }
