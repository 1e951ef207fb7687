use Rattle.smpp_session.proofs.Pieces.{one_cut}
use Rattle.smpp_session.proofs.laws.stream_has_one_cut.Goals as goal

pub returns : goal.returns
returns c = one_cut
