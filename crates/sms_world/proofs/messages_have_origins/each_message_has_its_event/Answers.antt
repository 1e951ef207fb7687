use Rattle.sms_world.proofs.messages_have_origins.OriginClaims.{origin_is}
use Rattle.sms_world.proofs.messages_have_origins.each_message_has_its_event.Goals as goal

pub returns : goal.returns
returns c = origin_is
