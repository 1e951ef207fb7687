use Rattle.sms_tpdu.proofs.CompletingUnits.{up_missing}
use Rattle.sms_tpdu.proofs.FaultReasons.{up_left_over, up_no_more}
use Rattle.sms_tpdu.proofs.laws.a_fault_up_has_its_reason.Goals as goal

pub returns-clause-truncated : goal.returns-clause-truncated
returns-clause-truncated c = up_missing

pub returns-clause-trailing : goal.returns-clause-trailing
returns-clause-trailing c = up_left_over

pub returns-clause-other : goal.returns-clause-other
returns-clause-other c = up_no_more
