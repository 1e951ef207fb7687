use Rattle.smsc_endpoint.proofs.LinkEnds.{after_end}
use Rattle.smsc_endpoint.proofs.laws.nothing_follows_the_end_of_a_link.Goals as goal

pub returns : goal.returns
returns c = λ calls before progress run. after_end calls before progress run
