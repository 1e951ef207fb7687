use Rattle.std.proofs.Common.{◌≡◌, ◌++◌, drop}
use Rattle.smsc_status.specs.Quoting.{quoted}
use Rattle.smsc_status.proofs.quoting.put_quoted.Given as goal

abbrev pub invariant-loop-octet : goal.invariant-loop-octet
invariant-loop-octet l = l.out ++ quoted (drop l.octet-index l.text) ≡ l.fn.out ++ quoted l.text
