use Rattle.sms_player_handset.proofs.Events.{keeps_moments}
use Rattle.sms_player_handset.proofs.laws.only_ticks_advance_time.Goals as goal

pub returns : goal.returns
returns c = keeps_moments
