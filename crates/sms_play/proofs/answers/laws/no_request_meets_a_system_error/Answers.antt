use Rattle.sms_play.proofs.answers.PlayAnswers.{no_system_error}
use Rattle.sms_play.proofs.answers.laws.no_request_meets_a_system_error.Goals as goal

pub returns : goal.returns
returns c = no_system_error
