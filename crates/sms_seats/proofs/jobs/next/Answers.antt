use Rattle.std.proofs.Common.{ap}
use Rattle.sms_seats.proofs.JobsKeep.{runs}
use Rattle.sms_seats.proofs.jobs.next.Goals as goal

pub pop_as-requires-clause-rule : goal.pop_as-requires-clause-rule
pop_as-requires-clause-rule g c = (runs _ _ (ap (λ v. v.runs) c.requires.mine), λ items views h at. tt)
