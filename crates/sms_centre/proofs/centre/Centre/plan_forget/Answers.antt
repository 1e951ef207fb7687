use Rattle.std.proofs.Common.{sym, subst}
use Rattle.sms_centre.specs.state.CentreState.{CentreStateOf, Represents}
use Rattle.sms_centre.proofs.centre.Centre.plan_forget.Goals as goal

pub returns-clause-outcome : goal.returns-clause-outcome
returns-clause-outcome g c = λ core represents. c.plan_forget.ensures.plan core (subst (λ (s : CentreStateOf). Represents core s) (sym c.self.view_is) represents)

pub returns-clause-archived : goal.returns-clause-archived
returns-clause-archived g c = λ core represents. c.plan_forget.ensures.archived core (subst (λ (s : CentreStateOf). Represents core s) (sym c.self.view_is) represents)
