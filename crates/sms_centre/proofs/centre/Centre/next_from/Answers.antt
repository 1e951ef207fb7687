use Rattle.std.proofs.Common.{sym, subst}
use Rattle.sms_centre.specs.state.CentreState.{CentreStateOf, Represents}
use Rattle.sms_centre.proofs.centre.Centre.next_from.Goals as goal

pub returns : goal.returns
returns c = λ core represents. c.next_from.ensures core (subst (λ (s : CentreStateOf). Represents core s) (sym c.self.view_is) represents)
