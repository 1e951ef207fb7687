use Rattle.std.proofs.Common.{◌≡◌, drop}
use Rattle.smsc_cli.specs.centre_table.Progressing.{due_from, due_in}
use Rattle.smsc_cli.proofs.centre_table.parts.due_in.Given as goal

abbrev pub invariant-loop-part : goal.invariant-loop-part
invariant-loop-part l = due_from l.first (drop l.part-index l.parts) ≡ due_in l.parts
