use Rattle.std.proofs.Common.{◌≡◌, replicate}
use Rattle.smsc_observer.specs.declared.seats.Occupant.TheVariants.{Unknown}
use Rattle.smsc_observer.proofs.seats.no_occupants.Given as goal

abbrev pub invariant-loop : goal.invariant-loop
invariant-loop l = l.seats.items ≡ replicate l.counter Unknown
