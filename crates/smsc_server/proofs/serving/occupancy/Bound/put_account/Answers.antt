use Rattle.std.proofs.Common.{sym, ◌∙◌}
use Rattle.smsc_server.proofs.serving.Limits.{one_within}
use Rattle.smsc_server.proofs.serving.occupancy.Bound.put_account.Goals as goal

pub set-requires : goal.set-requires
set-requires c =
    one_within c.args.self.now.limits.items c.args.self.now.accounts.items c.args.seat c.args.account c.args.self.now.within (sym c.has_room.ensures ∙ c.if-not-has_room.false)
