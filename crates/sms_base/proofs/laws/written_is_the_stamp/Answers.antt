use Rattle.sms_base.proofs.UtcClocks.{written_is_stamp}
use Rattle.sms_base.proofs.laws.written_is_the_stamp.Goals as goal

pub returns : goal.returns
returns c = written_is_stamp
