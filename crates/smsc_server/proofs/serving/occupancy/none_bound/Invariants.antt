use Rattle.std.proofs.Common.{◌≡◌, None, replicate}
use Rattle.smsc_server.proofs.serving.occupancy.none_bound.Given as goal

abbrev pub invariant-loop : goal.invariant-loop
invariant-loop l = l.accounts.items ≡ replicate l.counter None
