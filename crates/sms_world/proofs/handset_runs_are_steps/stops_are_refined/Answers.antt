use Rattle.sms_world.proofs.handset_runs_are_steps.Restarts.{start_seen, stop_event, stopped_seen}
use Rattle.sms_world.proofs.handset_runs_are_steps.stops_are_refined.Goals as goal

pub returns : goal.returns
returns c = record { stopped = stopped_seen; stop = stop_event; start = start_seen }
