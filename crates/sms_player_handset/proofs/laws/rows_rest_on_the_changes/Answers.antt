use Rattle.sms_player_handset.proofs.Events.{event_rests}
use Rattle.sms_player_handset.proofs.laws.rows_rest_on_the_changes.Goals as goal

pub returns : goal.returns
returns c = event_rests c.rows_are_the_changes.ensures.frame c.rows_are_the_changes.ensures.tick c.rows_are_the_changes.ensures.write c.rows_are_the_changes.ensures.delete c.rows_are_the_changes.ensures.discard
