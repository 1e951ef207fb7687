use Rattle.std.proofs.Common.{sym, subst}
use Rattle.sms_player.specs.centre.PlayedCentre.{Represents, PlayedOf}
use Rattle.sms_player.proofs.centre.PlayedCentre.table.Goals as goal

pub returns : goal.returns
returns c = λ core played. c.table.ensures core (subst (λ (p : PlayedOf). Represents core p.centre p.rows) (sym c.self.view_is) played).centre
