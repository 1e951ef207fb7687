use Rattle.std.proofs.Common.{length}
use Rattle.sms_concat.proofs.Numbering.{Counting}
use Rattle.sms_concat.proofs.splitting.count_pieces.Given as goal

abbrev pub invariant-loop-rest : goal.invariant-loop-rest
invariant-loop-rest l = Counting l.coding l.units l.rest l.count

abbrev pub decreases-loop-rest : goal.decreases-loop-rest
decreases-loop-rest l = length l.rest
