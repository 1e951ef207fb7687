use Rattle.sms_control.proofs.RepetitionLaws.{repeats_at_most_twice}
use Rattle.sms_control.proofs.laws.a_frame_is_repeated_at_most_twice.Goals as goal

pub returns : goal.returns
returns c = repeats_at_most_twice
