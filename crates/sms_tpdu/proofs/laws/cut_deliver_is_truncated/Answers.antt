use Rattle.sms_tpdu.proofs.CutUnits.{deliver_cut}
use Rattle.sms_tpdu.proofs.laws.cut_deliver_is_truncated.Goals as goal

pub returns : goal.returns
returns c = deliver_cut
