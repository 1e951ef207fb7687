use Rattle.sms_tpdu.proofs.CutUnits.{submit_cut}
use Rattle.sms_tpdu.proofs.laws.cut_submit_is_truncated.Goals as goal

pub returns : goal.returns
returns c = submit_cut
