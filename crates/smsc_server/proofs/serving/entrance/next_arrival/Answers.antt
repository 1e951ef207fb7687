use Rattle.smsc_server.proofs.serving.Entered.{next_taken}
use Rattle.smsc_server.proofs.serving.entrance.next_arrival.Goals as goal

pub returns-in-Some-clause-taken : goal.returns-in-Some-clause-taken
returns-in-Some-clause-taken g c = next_taken _ _ c.in-Some.item c.in-Some.ensures.taken
