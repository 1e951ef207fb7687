use Rattle.sms_control.proofs.RepeatLaws.{acknowledged_is_quiet}
use Rattle.sms_control.proofs.laws.an_acknowledged_opening_is_quiet.Goals as goal

pub returns : goal.returns
returns c = acknowledged_is_quiet
