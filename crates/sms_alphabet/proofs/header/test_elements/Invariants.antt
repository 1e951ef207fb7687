use Rattle.std.proofs.Common.{length}
use Rattle.sms_alphabet.proofs.Elements.{Continues}
use Rattle.sms_alphabet.proofs.header.test_elements.Given as goal

abbrev pub invariant-loop-cursor : goal.invariant-loop-cursor
invariant-loop-cursor l = Continues l.octets l.cursor

abbrev pub decreases-loop-cursor : goal.decreases-loop-cursor
decreases-loop-cursor l = length l.cursor
