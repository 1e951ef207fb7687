use Rattle.std.proofs.Common.{◌≡◌, ◌++◌}
use Rattle.smsc_status.specs.Json.{first_places}
use Rattle.smsc_status.proofs.json.put_places.Given as goal

abbrev pub invariant-loop-place : goal.invariant-loop-place
invariant-loop-place l = l.out ≡ l.fn.out ++ first_places l.commits.counts l.place
