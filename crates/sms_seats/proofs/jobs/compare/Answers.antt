use Rattle.std.proofs.Common.{ap, ◌∙◌}
use Rattle.sms_seats.proofs.JobsKeep.{merges, compares, leaves}
use Rattle.sms_seats.proofs.jobs.compare.Goals as goal

pub absorb-requires-clause-rule : goal.absorb-requires-clause-rule
absorb-requires-clause-rule g c = merges _ _ _ _ (ap (λ v. v.runs) c.requires.keeper) (ap (λ v. v.puts) c.requires.seat)

pub learn_as-requires-clause-rule : goal.learn_as-requires-clause-rule
learn_as-requires-clause-rule g c = compares _ _ (ap (λ v. v.runs) c.absorb.ensures.rule) (ap (λ v. v.puts) c.absorb.ensures.rule)

pub another-spare-requires-clause-rule : goal.another-spare-requires-clause-rule
another-spare-requires-clause-rule g c = leaves _ _ (ap (λ v. v.runs) (c.learn_as.ensures.queue.1 ∙ c.absorb.ensures.rule))
