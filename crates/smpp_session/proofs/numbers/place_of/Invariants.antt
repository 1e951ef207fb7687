use Rattle.smpp_session.proofs.Places.{Passed}
use Rattle.smpp_session.proofs.numbers.place_of.Given as goal

abbrev pub invariant-loop-place : goal.invariant-loop-place
invariant-loop-place l = Passed l.number l.items l.place
