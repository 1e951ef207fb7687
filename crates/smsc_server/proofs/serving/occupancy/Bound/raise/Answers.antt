use Rattle.std.proofs.Common.{sym, ◌∙◌}
use Rattle.smsc_server.proofs.serving.Limits.{raised_within}
use Rattle.smsc_server.proofs.serving.occupancy.Bound.raise.Goals as goal

pub set_limit-requires : goal.set_limit-requires
set_limit-requires c =
    raised_within c.args.self.now.limits.items c.args.self.now.accounts.items c.args.place c.args.most (sym c.rises.ensures ∙ c.if-rises.true) c.args.self.now.within
