use Rattle.sms_tpdu.proofs.CompletingUnits.{down_missing}
use Rattle.sms_tpdu.proofs.FaultReasons.{down_left_over, down_no_more}
use Rattle.sms_tpdu.proofs.laws.a_fault_down_has_its_reason.Goals as goal

pub returns-clause-truncated : goal.returns-clause-truncated
returns-clause-truncated c = down_missing

pub returns-clause-trailing : goal.returns-clause-trailing
returns-clause-trailing c = down_left_over

pub returns-clause-other : goal.returns-clause-other
returns-clause-other c = down_no_more
