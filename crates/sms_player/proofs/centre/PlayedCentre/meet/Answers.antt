use Rattle.std.proofs.Common.{sym, subst}
use Rattle.sms_player.specs.centre.PlayedCentre.{Represents, PlayedOf}
use Rattle.sms_player.proofs.centre.PlayedCentre.meet.Goals as goal

pub returns-clause-outputs : goal.returns-clause-outputs
returns-clause-outputs c = λ core played. c.meet.ensures.outputs core (subst (λ (p : PlayedOf). Represents core p.centre p.rows) (sym c.self.view_is) played)

pub returns-clause-played : goal.returns-clause-played
returns-clause-played c = λ core played. c.meet.ensures.played core (subst (λ (p : PlayedOf). Represents core p.centre p.rows) (sym c.self.view_is) played)

pub returns-clause-given : goal.returns-clause-given
returns-clause-given c = λ core played. c.meet.ensures.given core (subst (λ (p : PlayedOf). Represents core p.centre p.rows) (sym c.self.view_is) played)
