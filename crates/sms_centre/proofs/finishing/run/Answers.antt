-- run
use Rattle.std.proofs.Common.{inr, refl}
use Rattle.sms_centre.specs.Acting.{acted}
use Rattle.sms_centre.proofs.finishing.run.Goals as goal

pub returns-in-Ok-clause-outcome : goal.returns-in-Ok-clause-outcome
returns-in-Ok-clause-outcome g c = λ core rows represents centre_state can honest holds. c.follow.ensures.outcome (acted c.args.event.now core) rows (c.in-Ok.ensures core represents centre_state) can honest holds

pub returns-in-Err-clause-outcome : goal.returns-in-Err-clause-outcome
returns-in-Err-clause-outcome g c = λ core rows represents centre_state can honest holds. (holds, inr refl)
