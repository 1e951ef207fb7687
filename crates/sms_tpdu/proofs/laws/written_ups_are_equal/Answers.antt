use Rattle.sms_tpdu.proofs.WrittenUnits.{one_up}
use Rattle.sms_tpdu.proofs.laws.written_ups_are_equal.Goals as goal

pub returns : goal.returns
returns c = one_up
