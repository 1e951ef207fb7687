use Rattle.smsc_server.proofs.serving.Limits.{none_within}
use Rattle.smsc_server.proofs.serving.occupancy.Bound.put.Goals as goal

pub set-requires : goal.set-requires
set-requires c = none_within c.args.self.now.limits.items c.args.self.now.accounts.items c.args.seat c.args.self.now.within
