use Rattle.sms_tpdu.proofs.FaultReasons.{one_down_value, one_up_value}
use Rattle.sms_tpdu.proofs.laws.a_list_is_one_tpdu.Goals as goal

pub returns-clause-down : goal.returns-clause-down
returns-clause-down c = one_down_value

pub returns-clause-up : goal.returns-clause-up
returns-clause-up c = one_up_value
