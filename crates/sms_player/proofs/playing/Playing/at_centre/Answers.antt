use Rattle.sms_play.specs.Meeting.{AtCentre}
use Rattle.sms_play.specs.PlayedEvent.{centre_restarted, stored}
use Rattle.sms_player.proofs.playing.Halting.{centre_done, centre_stopped}
use Rattle.sms_player.proofs.playing.Playing.at_centre.Goals as goal

pub returns-in-None : goal.returns-in-None
returns-in-None c = λ play act shown same.
    centre_done c.centre_meets.result c.args.event act c.args.happening.now play c.centre_meets.new.self c.args.stop c.in-None.is (c.centre_meets.ensures play shown)

pub returns-in_ok-stop_centre-in-Some : goal.returns-in_ok-stop_centre-in-Some
returns-in_ok-stop_centre-in-Some c = λ play act shown same.
    centre_stopped c.answer_stop.result c.args.event act c.args.happening.now play c.answer_stop.new.self c.args.stop c.in-Some.stop c.args.is_answered c.in-Some.is same
    (c.answer_stop.ensures (centre_restarted (stored c.in-Some.stop (AtCentre c.args.happening.now) play)) (c.in_ok-stop_centre-in-Some.ensures play shown))
