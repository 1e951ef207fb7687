use Rattle.sms_world.proofs.submissions_stay.AloneParts.{alone_carries}
use Rattle.sms_world.proofs.submissions_stay.NewMessages.{made_is}
use Rattle.sms_world.proofs.submissions_stay.StaysSubmitted.{stays_submitted}
use Rattle.sms_world.proofs.submissions_stay.submissions_stay_as_submitted.Goals as goal

pub returns : goal.returns
returns c = record { made = made_is; stays = stays_submitted; alone = alone_carries }
