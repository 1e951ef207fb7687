use Rattle.std.proofs.Common.{subst, ◌<◌}
use Rattle.sms_script.proofs.text.text_front.Goals as goal

pub returns-in-Err-clause-longest : goal.returns-in-Err-clause-longest
returns-in-Err-clause-longest c = λ n more le. c.in-Err.ensures.cases.1.longest n (subst (λ m. m < n) c.valid_up_to.ensures more)
