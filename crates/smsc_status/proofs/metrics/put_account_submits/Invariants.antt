use Rattle.std.proofs.Common.{◌≡◌, ◌++◌, drop}
use Rattle.smsc_status.specs.Metrics.{account_submits}
use Rattle.smsc_status.proofs.metrics.put_account_submits.Given as goal

abbrev pub invariant-loop-line : goal.invariant-loop-line
invariant-loop-line l = l.out ++ account_submits l.name (drop l.line-index l.accounts) ≡ l.fn.out ++ account_submits l.name l.accounts
