use Rattle.sms_centre_spec.proofs.Answered.{answer_names}
use Rattle.sms_centre_spec.proofs.laws.an_answered_submission_is_stored.Goals as goal

pub returns : goal.returns
returns c = answer_names
