use Rattle.sms_tpdu.proofs.WrittenUnits.{written_up_is_read}
use Rattle.sms_tpdu.proofs.laws.written_up_is_read.Goals as goal

pub returns : goal.returns
returns c = written_up_is_read
