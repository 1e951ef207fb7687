use Rattle.sms_control.proofs.RepeatLaws.{present_is_quiet}
use Rattle.sms_control.proofs.laws.a_present_opening_is_quiet.Goals as goal

pub returns : goal.returns
returns c = present_is_quiet
