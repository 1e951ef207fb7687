use Rattle.std.proofs.Common.{ap, sym}
use Rattle.sms_seats.proofs.JobsKeep.{puts}
use Rattle.sms_seats.proofs.jobs.put.Goals as goal

pub push_as-requires-clause-rule : goal.push_as-requires-clause-rule
push_as-requires-clause-rule g c = (puts _ _ _ _ (ap (λ v. v.puts) c.requires.mine) (sym (ap (λ v. v.seat) c.requires.mine)), λ items views h at. tt)
