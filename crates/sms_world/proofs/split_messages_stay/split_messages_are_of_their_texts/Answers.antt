use Rattle.sms_concat.proofs.Joined.{split_joins}
use Rattle.sms_world.proofs.split_messages_stay.SplitTexts.{stays_split, text_is_split}
use Rattle.sms_world.proofs.split_messages_stay.split_messages_are_of_their_texts.Goals as goal

pub returns : goal.returns
returns c = record { text = text_is_split; stays = stays_split; joins = split_joins }
