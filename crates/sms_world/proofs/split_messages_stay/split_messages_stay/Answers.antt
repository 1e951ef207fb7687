use Rattle.sms_world.proofs.split_messages_stay.SplitEvents.{splits_hold}
use Rattle.sms_world.proofs.split_messages_stay.split_messages_stay.Goals as goal

pub returns : goal.returns
returns c = splits_hold
