use Rattle.std.proofs.Common.{◌≡◌, ◌++◌, drop, map}
use Rattle.smsc_server.specs.serving.Rates.{first_rate}
use Rattle.smsc_server.proofs.serving.rates.new_rates.Given as goal

abbrev pub invariant-loop-allowance : goal.invariant-loop-allowance
invariant-loop-allowance l = l.rates.items ++ map first_rate (drop l.allowance-index l.allowed) ≡ map first_rate l.allowed
