use Rattle.sms_concat.proofs.Joined.{Bearing}
use Rattle.sms_concat.proofs.joining.bear_all.Given as goal

abbrev pub invariant-loop-part : goal.invariant-loop-part
invariant-loop-part l = Bearing l.reference l.total l.dcs l.below l.parts l.number l.part-index
