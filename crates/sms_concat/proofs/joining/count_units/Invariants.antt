use Rattle.sms_concat.proofs.Joined.{Summing}
use Rattle.sms_concat.proofs.joining.count_units.Given as goal

abbrev pub invariant-loop-part : goal.invariant-loop-part
invariant-loop-part l = Summing l.parts l.count l.part-index
