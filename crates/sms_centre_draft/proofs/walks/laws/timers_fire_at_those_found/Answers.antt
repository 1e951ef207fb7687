use Rattle.sms_centre_draft.proofs.walks.FiresFound.{fires_found}
use Rattle.sms_centre_draft.proofs.walks.laws.timers_fire_at_those_found.Goals as goal

pub returns : goal.returns
returns c = fires_found
