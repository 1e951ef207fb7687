use Rattle.std.proofs.Common.{length}
use Rattle.sms_concat.proofs.Numbering.{Numbering}
use Rattle.sms_concat.proofs.splitting.numbered_parts.Given as goal

abbrev pub invariant-loop-rest : goal.invariant-loop-rest
invariant-loop-rest l = Numbering l.content l.reference l.total l.numbered l.rest l.number

abbrev pub decreases-loop-rest : goal.decreases-loop-rest
decreases-loop-rest l = length l.rest
