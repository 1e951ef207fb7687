use Rattle.sms_centre_spec.specs.CentreEvent.{expired}
use Rattle.sms_centre_spec.specs.Draft.{in_store}
use Rattle.sms_centre_events.proofs.ticks.age.Goals as goal

pub returns : goal.returns
returns c = λ d represents holds. c.drop_old.ensures (in_store (expired d.store) d) (c.in_ok-expire.ensures d represents holds)
