use Rattle.smsc_endpoint.proofs.Pieces.{pieces_join}
use Rattle.smsc_endpoint.proofs.laws.pieces_join.Goals as goal

pub returns : goal.returns
returns c = pieces_join
