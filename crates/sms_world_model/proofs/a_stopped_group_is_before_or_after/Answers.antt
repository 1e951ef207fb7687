use Rattle.sms_world_model.proofs.Stops.{all_after, all_before}
use Rattle.sms_world_model.proofs.a_stopped_group_is_before_or_after.Goals as goal

pub returns-clause-before : goal.returns-clause-before
returns-clause-before c w v group went plays = all_before w v group went plays

pub returns-clause-after : goal.returns-clause-after
returns-clause-after c w v group went plays = all_after w v group went plays
