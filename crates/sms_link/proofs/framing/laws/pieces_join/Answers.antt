use Rattle.sms_link.proofs.framing.Streams.{pieces_are_one}
use Rattle.sms_link.proofs.framing.laws.pieces_join.Goals as goal

pub returns : goal.returns
returns c = pieces_are_one
