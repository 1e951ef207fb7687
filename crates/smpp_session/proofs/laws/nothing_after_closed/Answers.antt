use Rattle.smpp_session.proofs.Promises.{closed_is_quiet}
use Rattle.smpp_session.proofs.laws.nothing_after_closed.Goals as goal

pub returns : goal.returns
returns c = closed_is_quiet
