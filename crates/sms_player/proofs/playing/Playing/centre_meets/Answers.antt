use Rattle.sms_centre_spec.specs.CentreEvent.{happened}
use Rattle.sms_play.specs.CentreSide.{done}
use Rattle.sms_player.proofs.playing.Outcomes.{centre_met}
use Rattle.sms_player.proofs.playing.Playing.centre_meets.Goals as goal

pub returns : goal.returns
returns c = λ play shown.
    let d = happened c.args.happening.now play.centre in
    centre_met c.put_answer.result c.args.event c.args.happening.now play c.accept_all.new.self c.put_answer.new.self c.in_ok-heard.heard.deliveries c.in_ok-heard.heard.answer
    (c.in_ok-heard.ensures.deliveries play shown) (c.in_ok-heard.ensures.answer play shown)
    (c.in_ok-accept_all.ensures (done d play) d (c.in_ok-heard.ensures.represents play shown)) c.put_answer.ensures
