use Rattle.sms_concat.proofs.Joined.{Gathering}
use Rattle.sms_concat.proofs.joining.add_units.Given as goal

abbrev pub invariant-loop-part : goal.invariant-loop-part
invariant-loop-part l = Gathering l.initial.units l.parts l.units l.part-index
