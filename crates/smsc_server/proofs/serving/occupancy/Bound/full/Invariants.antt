use Rattle.std.proofs.Common.{ℕ}
use Rattle.smsc_server.specs.serving.SessionLimits.{may_have_more}
use Rattle.smsc_server.proofs.serving.Limits.{Tells}
use Rattle.smsc_server.proofs.serving.occupancy.Bound.full.Given as goal

abbrev pub invariant-loop-account : goal.invariant-loop-account
invariant-loop-account l =
    Tells (λ (a : ℕ). may_have_more a l.fn.self.suspended l.fn.self.limits.items l.fn.self.accounts.items) l.account l.full
