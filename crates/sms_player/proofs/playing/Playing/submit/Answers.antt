use Rattle.std.proofs.Common.{refl, subst}
use Rattle.smpp_pdu.specs.declared.message.Message.{Message}
use Rattle.std.specs.Prelude.{OnOk}
use Rattle.sms_centre_spec.specs.declared.event.CentreEvent.TheVariants.{Submit as CentreSubmit}
use Rattle.sms_play.specs.Meeting.{AtCentre}
use Rattle.sms_player.specs.playing.Plays.{Represents}
use Rattle.sms_player.specs.playing.Playing.{met_as}
use Rattle.sms_script.specs.declared.event.Act.TheVariants.{Submit}
use Rattle.sms_player.proofs.playing.Playing.submit.Goals as goal

pub returns : goal.returns
returns c = λ play shown.
    subst (λ (m : Message). OnOk c.at_centre.result (Represents (met_as c.args.stop c.args.event (Submit c.args.submission.now) (AtCentre (CentreSubmit c.args.account m)) play) c.at_centre.new.self)) c.submit_of.ensures
    (c.at_centre.ensures play (Submit c.args.submission.now) shown refl)
