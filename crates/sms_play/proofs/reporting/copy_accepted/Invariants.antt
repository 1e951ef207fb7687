use Rattle.std.proofs.Common.{◌≡◌, ◌++◌, drop}
use Rattle.sms_play.proofs.reporting.copy_accepted.Given as goal

abbrev pub invariant-loop-row : goal.invariant-loop-row
invariant-loop-row l = l.lines ++ drop l.row-index l.rows ≡ l.fn.lines ++ l.rows
