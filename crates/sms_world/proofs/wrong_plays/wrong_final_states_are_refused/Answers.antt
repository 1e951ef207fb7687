use Rattle.sms_world.proofs.wrong_plays.LinesMoved.{lines as lines_is, line_gone, other_end, other_state, receipt_gone, two_receipts}
use Rattle.sms_world.proofs.wrong_plays.wrong_final_states_are_refused.Goals as goal

pub returns : goal.returns
returns c = record { lines = lines_is; gone = line_gone; other = other_end; forgotten = receipt_gone; state = other_state; once = two_receipts }
