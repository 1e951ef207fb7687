use Rattle.sms_world.proofs.wrong_plays.NotSentUp.{alone as alone_is, frame as frame_is, handset_is, next as next_is, other_text, reference as reference_is, right as right_is, source_is, wish as wish_is}
use Rattle.sms_world.proofs.wrong_plays.SplitTried.{other_plan}
use Rattle.sms_world.proofs.wrong_plays.other_messages_than_sent_are_refused.Goals as goal

pub returns : goal.returns
returns c = record { right = right_is; next = next_is; frame = frame_is; reference = reference_is; source = source_is; address = other_plan; wish = wish_is; handset = handset_is; alone = alone_is; text = other_text }
