use Rattle.sms_base.proofs.WrittenStamps.{one_written}
use Rattle.sms_base.proofs.laws.written_stamps_are_equal.Goals as goal

pub returns : goal.returns
returns c = one_written
