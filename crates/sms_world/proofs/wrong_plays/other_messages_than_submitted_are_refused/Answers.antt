use Rattle.sms_world.proofs.wrong_plays.NotSubmitted.{lost_part, lost_text, one_part_more, other_handset, other_limit, other_originator, other_protocol, other_source, other_split, other_wish, short}
use Rattle.sms_world.proofs.wrong_plays.other_messages_than_submitted_are_refused.Goals as goal

pub returns : goal.returns
returns c = record { originator = other_originator; source = other_source; handset = other_handset; protocol = other_protocol; wish = other_wish; limit = other_limit; split = other_split; each = lost_part; only = one_part_more; long = short; carried = lost_text }
