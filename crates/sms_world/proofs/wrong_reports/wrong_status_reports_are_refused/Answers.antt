use Rattle.sms_world.proofs.wrong_reports.StatusSays.{done, recipient, reference, right, state, submitted}
use Rattle.sms_world.proofs.wrong_reports.wrong_status_reports_are_refused.Goals as goal

pub returns : goal.returns
returns c = record { right = right; reference = reference; recipient = recipient; submitted = submitted; done = done; state = state }
