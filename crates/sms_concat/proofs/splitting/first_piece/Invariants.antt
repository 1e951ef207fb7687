use Rattle.std.proofs.Common.{length, ◌-◌}
use Rattle.sms_concat.proofs.Dividing.{Filling}
use Rattle.sms_concat.proofs.splitting.first_piece.Given as goal

abbrev pub invariant-loop-end : goal.invariant-loop-end
invariant-loop-end l = Filling l.coding l.units l.end

abbrev pub decreases-loop-end : goal.decreases-loop-end
decreases-loop-end l = length l.units - l.end
