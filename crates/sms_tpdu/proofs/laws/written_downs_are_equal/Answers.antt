use Rattle.sms_tpdu.proofs.WrittenUnits.{one_down}
use Rattle.sms_tpdu.proofs.laws.written_downs_are_equal.Goals as goal

pub returns : goal.returns
returns c = one_down
