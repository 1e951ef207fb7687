use Rattle.sms_tpdu.proofs.WrittenUnits.{written_down_is_read}
use Rattle.sms_tpdu.proofs.laws.written_down_is_read.Goals as goal

pub returns : goal.returns
returns c = written_down_is_read
