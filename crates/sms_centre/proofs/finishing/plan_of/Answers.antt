use Rattle.std.proofs.Common.{inr, refl, sym, subst}
use Rattle.sms_centre_spec.specs.SoundRows.{IsSetup}
use Rattle.sms_centre.proofs.finishing.plan_of.Goals as goal

pub plan_begun-requires : goal.plan_begun-requires
plan_begun-requires g c = record { setup = subst IsSetup (sym c.in-Ok.ensures.setup) c.requires.setup }

pub returns-in-Ok-clause-outcome : goal.returns-in-Ok-clause-outcome
returns-in-Ok-clause-outcome g c = λ core rows centre_state can honest holds. c.plan_begun.ensures.outcome core rows (c.in-Ok.ensures.represented core centre_state) centre_state can honest holds

pub returns-in-Err-clause-outcome : goal.returns-in-Err-clause-outcome
returns-in-Err-clause-outcome g c = λ core rows centre_state can honest holds. (holds, inr refl)
