use Rattle.sms_centre_messages.proofs.reference_moves.EventMoves.{event_moves}
use Rattle.sms_centre_messages.proofs.reference_moves.laws.every_event_moves_reference_index.Goals as goal

pub returns : goal.returns
returns c = event_moves
