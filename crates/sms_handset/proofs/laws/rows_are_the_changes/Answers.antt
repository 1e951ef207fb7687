use Rattle.sms_handset.proofs.Resting.{frame_rests, tick_rests, write_rests, delete_rests, discard_rests}
use Rattle.sms_handset.proofs.laws.rows_are_the_changes.Goals as goal

pub returns : goal.returns
returns c = record { frame = frame_rests; tick = tick_rests; write = write_rests; delete = delete_rests; discard = discard_rests }
