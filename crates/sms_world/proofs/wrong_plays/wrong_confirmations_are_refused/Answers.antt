use Rattle.sms_world.proofs.wrong_plays.NotConfirmed.{not_listed, not_there, system_error as error}
use Rattle.sms_world.proofs.wrong_plays.wrong_confirmations_are_refused.Goals as goal

pub returns : goal.returns
returns c = record { message = not_there; listed = not_listed; system_error = error }
