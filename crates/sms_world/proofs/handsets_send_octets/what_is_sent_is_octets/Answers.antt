use Rattle.sms_world.proofs.handsets_send_octets.EventOctets.{run_sends, event_sends, restart_keeps, start_keeps}
use Rattle.sms_world.proofs.handsets_send_octets.what_is_sent_is_octets.Goals as goal

pub returns : goal.returns
returns c = record { event = event_sends; restart = restart_keeps; start = start_keeps; run = run_sends }
