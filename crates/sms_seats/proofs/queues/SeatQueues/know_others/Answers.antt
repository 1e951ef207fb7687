use Rattle.std.proofs.Common.{ap, arith}
use Rattle.sms_seats.proofs.JobsKeep.{no_others}
use Rattle.sms_seats.proofs.queues.SeatQueues.know_others.Goals as goal

pub learn_as-requires-clause-rule : goal.learn_as-requires-clause-rule
learn_as-requires-clause-rule g c = no_others _ _ (ap (λ v. v.runs) c.args.self.now.runs)

pub returns-clause-none : goal.returns-clause-none
returns-clause-none g c n past = c.learn_as.ensures.rule.1 n (let a = c.args.self.now.numbered in omega arith)
