use Rattle.sms_centre_spec.specs.CentreEvent.{aged, at_moment, fired}
use Rattle.sms_centre_events.proofs.ticks.tick.Goals as goal

pub returns : goal.returns
returns c = λ d represents holds.
    let e = at_moment c.args.now d in
    c.raise.ensures (fired (aged e)) (c.in_ok-fire.ensures (aged e) (c.in_ok-age.ensures e (c.at_moment.ensures d represents) holds))
