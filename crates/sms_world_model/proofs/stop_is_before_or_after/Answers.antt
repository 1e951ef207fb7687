use Rattle.sms_world_model.proofs.Stops.{may_stop, stop_leaves}
use Rattle.sms_world_model.proofs.stop_is_before_or_after.Goals as goal

pub returns-clause-leaves : goal.returns-clause-leaves
returns-clause-leaves c w v h stopped leads = stop_leaves w v h stopped leads

pub returns-clause-may : goal.returns-clause-may
returns-clause-may c w x event m leads = may_stop w x event m leads
