use Rattle.std.proofs.Common.{◌≡◌, take}
use Rattle.smsc_server.specs.serving.Rates.{limited_all}
use Rattle.smsc_server.proofs.serving.rates.AccountRates.limit_all.Given as goal

abbrev pub invariant-loop-place : goal.invariant-loop-place
invariant-loop-place l = l.self.rates.items ≡ limited_all (take l.place l.allowed) l.fn.self.rates.items
