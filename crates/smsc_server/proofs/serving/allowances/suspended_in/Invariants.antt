use Rattle.std.proofs.Common.{ℕ, not}
use Rattle.smsc_server.specs.serving.SessionLimits.{suspends}
use Rattle.smsc_server.proofs.serving.Limits.{Tells}
use Rattle.smsc_server.proofs.serving.allowances.suspended_in.Given as goal

abbrev pub invariant-loop-account : goal.invariant-loop-account
invariant-loop-account l = Tells (λ (a : ℕ). not (suspends a l.fn.allowed)) l.account l.suspended
