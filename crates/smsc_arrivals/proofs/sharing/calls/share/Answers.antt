use Rattle.smsc_arrivals.proofs.SharingKeeps.{begins}
use Rattle.smsc_arrivals.proofs.sharing.calls.share.Goals as goal

pub bounded_with-requires-clause-rule : goal.bounded_with-requires-clause-rule
bounded_with-requires-clause-rule g c = begins
