use Rattle.std.proofs.Common.{◌≡◌, ◌++◌, drop}
use Rattle.smsc_status.specs.Quoting.{quoted}
use Rattle.smsc_status.proofs.quoting.put_quoted_name.Given as goal

abbrev pub invariant-loop-character : goal.invariant-loop-character
invariant-loop-character l = l.out ++ quoted (drop l.character-index l.name) ≡ l.fn.out ++ quoted l.name
