use Rattle.std.proofs.Common.{◌≡◌, drop}
use Rattle.smsc_cli.specs.centre_table.Progressing.{attempts_from, attempts_in}
use Rattle.smsc_cli.proofs.centre_table.parts.attempts_in.Given as goal

abbrev pub invariant-loop-part : goal.invariant-loop-part
invariant-loop-part l = attempts_from l.most (drop l.part-index l.parts) ≡ attempts_in l.parts
