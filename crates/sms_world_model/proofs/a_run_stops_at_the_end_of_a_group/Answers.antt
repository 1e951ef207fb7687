use Rattle.sms_world_model.proofs.Stops.{stops_after, stops_before}
use Rattle.sms_world_model.proofs.a_run_stops_at_the_end_of_a_group.Goals as goal

pub returns-clause-before : goal.returns-clause-before
returns-clause-before c w v earlier group went plays = stops_before w v earlier group went plays

pub returns-clause-after : goal.returns-clause-after
returns-clause-after c w v earlier group went plays = stops_after w v earlier group went plays
