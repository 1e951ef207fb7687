use Rattle.std.proofs.Common.{sym, subst}
use Rattle.sms_centre.specs.state.CentreState.{Represents, CentreStateOf}
use Rattle.sms_centre.proofs.centre.Centre.query_refusal.Goals as goal

pub returns : goal.returns
returns c = λ core represents.
    c.query_refusal.ensures core (subst (λ (s : CentreStateOf). Represents core s) (sym c.self.view_is) represents)
