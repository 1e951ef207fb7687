use Rattle.std.proofs.Common.{Some, subst}
use Rattle.smpp_session.specs.Patience.{unknown_limit, HasRunOut}
use Rattle.smpp_session.proofs.Waiting.{Says, says}
use Rattle.smpp_session.proofs.laws.none_is_given_up_early.Goals as goal

pub returns-clause-stalled : goal.returns-clause-stalled
returns-clause-stalled c p s now e = subst (Says p s now) e (says p s now)

pub returns-clause-leaving : goal.returns-clause-leaving
returns-clause-leaving c p s now e = subst (Says p s now) e (says p s now)

pub returns-clause-unknown : goal.returns-clause-unknown
returns-clause-unknown c p s now alone e = let h = subst (Says p s now) e (says p s now) in (h.0, subst (λ b. HasRunOut (unknown_limit b) (Some p.unknown) now) alone h.1)

pub returns-clause-awaited : goal.returns-clause-awaited
returns-clause-awaited c p s now others e = let h = subst (Says p s now) e (says p s now) in (h.0, subst (λ b. HasRunOut (unknown_limit b) (Some p.unknown) now) others h.1)

pub returns-clause-owed : goal.returns-clause-owed
returns-clause-owed c p s now e = subst (Says p s now) e (says p s now)

pub returns-clause-asked : goal.returns-clause-asked
returns-clause-asked c p s now e = subst (Says p s now) e (says p s now)

pub returns-clause-heard : goal.returns-clause-heard
returns-clause-heard c p s now e = subst (Says p s now) e (says p s now)
