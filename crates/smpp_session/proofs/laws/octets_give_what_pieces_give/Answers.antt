use Rattle.smpp_session.proofs.Pieces.{by_pieces_is}
use Rattle.smpp_session.proofs.laws.octets_give_what_pieces_give.Goals as goal

pub returns : goal.returns
returns c = by_pieces_is
