use Rattle.std.proofs.Common.{◌∙◌, sym}
use Rattle.sms_play.specs.Meeting.{AtHandset}
use Rattle.sms_play.specs.PlayedEvent.{stored, restarted}
use Rattle.sms_player.proofs.playing.Halting.{handset_done, handset_stopped}
use Rattle.sms_player.proofs.playing.Playing.at_handset.Goals as goal

pub returns-in-None : goal.returns-in-None
returns-in-None c = λ play party act shown first same.
    handset_done c.handset_meets.result c.args.event act c.args.happening.now party play c.handset_meets.new.self c.args.stop c.in-None.is (c.handset_meets.ensures play party shown first)

pub returns-in_ok-stop_handset-in-Some : goal.returns-in_ok-stop_handset-in-Some
returns-in_ok-stop_handset-in-Some c = λ play party act shown first same.
    handset_stopped c.answer_stop.result c.args.event act c.args.happening.now party play c.answer_stop.new.self c.args.stop c.in-Some.stop c.is_owners.result c.in-Some.is (same ∙ sym c.is_owners.ensures)
    (c.answer_stop.ensures (restarted (AtHandset party c.args.happening.now) (stored c.in-Some.stop (AtHandset party c.args.happening.now) play)) (c.in_ok-stop_handset-in-Some.ensures play party shown first))
