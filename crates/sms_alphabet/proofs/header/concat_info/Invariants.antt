use Rattle.std.proofs.Common.{length}
use Rattle.sms_alphabet.proofs.Elements.{KeySoFar}
use Rattle.sms_alphabet.proofs.header.concat_info.Given as goal

abbrev pub invariant-loop-element : goal.invariant-loop-element
invariant-loop-element l = KeySoFar l.header l.cursor l.key

abbrev pub decreases-loop-element : goal.decreases-loop-element
decreases-loop-element l = length l.cursor
