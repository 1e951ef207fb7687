use Rattle.std.proofs.Common.{sym, subst}
use Rattle.std.specs.Prelude.{OnOk}
use Rattle.sms_centre_spec.specs.CentreEvent.{happened}
use Rattle.sms_play.specs.CentreSide.{committed}
use Rattle.sms_play.specs.Meeting.{AtCentre}
use Rattle.sms_play.specs.PlayedEvent.{centre_restarted, stored}
use Rattle.sms_player.specs.playing.Plays.{Represents}
use Rattle.sms_script.specs.declared.event.StopPoint.{StopPoint}
use Rattle.sms_player.proofs.playing.Playing.stop_centre.Goals as goal

pub returns-in-Before : goal.returns-in-Before
returns-in-Before c = λ play shown.
    subst (λ (how : StopPoint). OnOk c.restart_centre.result (Represents (centre_restarted (stored how (AtCentre c.args.happening.now) play)) c.restart_centre.new.self)) (sym c.in-Before.is) (c.restart_centre.ensures play shown)

pub returns-in_ok-commit_centre-in-After : goal.returns-in_ok-commit_centre-in-After
returns-in_ok-commit_centre-in-After c = λ play shown.
    subst (λ (how : StopPoint). OnOk c.restart_centre-in-After.result (Represents (centre_restarted (stored how (AtCentre c.args.happening.now) play)) c.restart_centre-in-After.new.self)) (sym c.in-After.is)
    (c.restart_centre-in-After.ensures (committed (happened c.args.happening.now play.centre) play) (c.in_ok-commit_centre-in-After.ensures.represents play shown))
