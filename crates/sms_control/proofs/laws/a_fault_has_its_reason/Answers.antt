use Rattle.sms_control.proofs.FaultLaws.{cp_continues, cp_has_front, cp_stops}
use Rattle.sms_control.proofs.laws.a_fault_has_its_reason.Goals as goal

pub returns-clause-truncated : goal.returns-clause-truncated
returns-clause-truncated c = cp_continues

pub returns-clause-trailing : goal.returns-clause-trailing
returns-clause-trailing c = cp_has_front

pub returns-clause-other : goal.returns-clause-other
returns-clause-other c = cp_stops
