use Rattle.sms_world.proofs.wrong_plays.NotSentUp.{common as common_is, owners as owners_is, sent_by_other, sent_other_text, submitted_text, takers as takers_is}
use Rattle.sms_world.proofs.wrong_plays.texts_of_nobody_are_refused.Goals as goal

pub returns : goal.returns
returns c = record { source = sent_by_other; sent = sent_other_text; submitted = submitted_text; owners = owners_is; common = common_is; takers = takers_is }
