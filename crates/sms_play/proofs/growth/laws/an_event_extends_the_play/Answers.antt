use Rattle.sms_play.proofs.growth.Growing.{every_event_grows_on}
use Rattle.sms_play.proofs.growth.laws.an_event_extends_the_play.Goals as goal

pub returns : goal.returns
returns c = every_event_grows_on
