use Rattle.sms_centre_spec.specs.Draft.{draft_of}
use Rattle.sms_centre.proofs.acting.unbound.Goals as goal

pub returns : goal.returns
returns c = λ core represents centre_state. c.in_ok-unbind.ensures (draft_of core) represents centre_state.awaited
