use Rattle.std.proofs.Common.{Some, subst, sym}
use Rattle.smpp_session.specs.Patience.{unknown_limit, HasRunOut}
use Rattle.smpp_session.proofs.Waiting.{Says, says, sooner}
use Rattle.smpp_session.proofs.laws.none_is_waited_for_without_end.Goals as goal

pub returns-clause-stalled : goal.returns-clause-stalled
returns-clause-stalled c p s now e = (subst (Says p s now) e (says p s now)).stalled

pub returns-clause-leaving : goal.returns-clause-leaving
returns-clause-leaving c p s now e = (subst (Says p s now) e (says p s now)).leaving

pub returns-clause-unknown : goal.returns-clause-unknown
returns-clause-unknown c p s now unknown e = let h = (subst (Says p s now) e (says p s now)).unknown unknown in
    ((λ out. h (sooner s.others_wait p.unknown now out)), λ others out. h (subst (λ b. HasRunOut (unknown_limit b) (Some p.unknown) now) (sym others) out))

pub returns-clause-owed : goal.returns-clause-owed
returns-clause-owed c p s now known e = (subst (Says p s now) e (says p s now)).owed known

pub returns-clause-asked : goal.returns-clause-asked
returns-clause-asked c p s now known bound e = (subst (Says p s now) e (says p s now)).asked known bound

pub returns-clause-heard : goal.returns-clause-heard
returns-clause-heard c p s now known bound none e = (subst (Says p s now) e (says p s now)).heard known bound none
