use Rattle.std.proofs.Common.{sym, subst, OnOk}
use Rattle.sms_store.proofs.centre.gathering.CentreKeepCentreStore.gather.Goals as goal

pub returns-clause-closed : goal.returns-clause-closed
returns-clause-closed g c clean shut = subst (λ r. OnOk r ⊥) (sym (c.load.ensures.closed clean shut)) tt
