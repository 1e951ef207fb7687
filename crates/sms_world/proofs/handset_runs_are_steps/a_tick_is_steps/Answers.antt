use Rattle.sms_world.proofs.handset_runs_are_steps.Restarts.{restart_event}
use Rattle.sms_world.proofs.handset_runs_are_steps.Ticks.{tick_event}
use Rattle.sms_world.proofs.handset_runs_are_steps.a_tick_is_steps.Goals as goal

pub returns : goal.returns
returns c = record { tick = tick_event; restart = restart_event }
