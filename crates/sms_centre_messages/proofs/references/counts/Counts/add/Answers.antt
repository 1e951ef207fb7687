use Rattle.std.proofs.Common.{arith}
use Rattle.sms_centre_messages.proofs.references.Written.{added_set}
use Rattle.sms_centre_messages.proofs.references.counts.Counts.add.Goals as goal

pub returns-clause-added : goal.returns-clause-added
returns-clause-added c = added_set c.args.key c.in-Some.more c.args.self.now c.set.new.self (omega (arith, c.in-Some.ensures, c.of-count.ensures)) c.in_ok-set.ensures.set
