use Rattle.std.proofs.Common.{◌≡◌}
use Rattle.smsc_endpoint.specs.EsmeCalls.{acted_all}
use Rattle.smsc_endpoint.proofs.esme.Esme.act_all.Given as goal

abbrev pub invariant-loop-action : goal.invariant-loop-action
invariant-loop-action l = l.self ≡ acted_all l.fn.self l.yielded
