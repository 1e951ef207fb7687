use Rattle.sms_world.proofs.messages_have_origins.DeliveredClaims.{delivered_from}
use Rattle.sms_world.proofs.messages_have_origins.delivered_was_submitted.Goals as goal

pub returns : goal.returns
returns c = delivered_from
