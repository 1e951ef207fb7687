use Rattle.std.proofs.Common.{ℕ, List, length}
use Rattle.sms_alphabet.proofs.Ucs2Steps.{Decodes}
use Rattle.sms_alphabet.proofs.ucs2.test.Given as goal

abbrev pub invariant-loop-rest : goal.invariant-loop-rest
invariant-loop-rest l = (front : List ℕ) × Decodes l.octets l.rest front

abbrev pub decreases-loop-rest : goal.decreases-loop-rest
decreases-loop-rest l = length l.rest
