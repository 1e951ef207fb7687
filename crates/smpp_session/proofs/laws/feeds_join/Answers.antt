use Rattle.smpp_session.proofs.Cuts.{feed_joins}
use Rattle.smpp_session.proofs.laws.feeds_join.Goals as goal

pub returns : goal.returns
returns c = feed_joins
