use Rattle.sms_world_model.specs.World.{empty}
use Rattle.sms_world_model.proofs.Upward.{up_run, up_empty}
use Rattle.sms_world_model.proofs.sent_was_submitted.Goals as goal

pub returns : goal.returns
returns c items run timely = (up_run empty items up_empty run timely).done
