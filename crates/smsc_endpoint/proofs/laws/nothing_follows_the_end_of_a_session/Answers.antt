use Rattle.smsc_endpoint.proofs.EsmeEnds.{after_end}
use Rattle.smsc_endpoint.proofs.laws.nothing_follows_the_end_of_a_session.Goals as goal

pub returns : goal.returns
returns c = λ calls before. after_end c.nothing_after_closed.ensures calls before
