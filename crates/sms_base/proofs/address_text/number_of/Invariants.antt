use Rattle.std.proofs.Common.{length}
use Rattle.std.specs.Str.{chars}
use Rattle.sms_base.proofs.NumberWalk.{Walked}
use Rattle.sms_base.proofs.address_text.number_of.Given as goal

abbrev pub invariant-loop-character : goal.invariant-loop-character
invariant-loop-character l = Walked (chars l.text) l.digits (length l.yielded)
