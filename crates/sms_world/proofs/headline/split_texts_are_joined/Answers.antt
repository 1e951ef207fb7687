use Rattle.sms_world.proofs.headline.SplitClaimed.{split_joined_is, split_long_is, split_stays_is}
use Rattle.sms_world.proofs.messages_have_origins.TextClaims.{split_text_is}
use Rattle.sms_world.proofs.headline.split_texts_are_joined.Goals as goal

pub returns : goal.returns
returns c = record { long = split_long_is; stays = split_stays_is; text = split_text_is; joined = split_joined_is }
