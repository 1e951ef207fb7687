use Rattle.sms_relay_run.proofs.relay_laws.Frames.{units_from}
use Rattle.sms_relay_run.proofs.relay_laws.sent.units_in.Goals as goal

pub returns : goal.returns
returns c = λ centre from now unit sent is frames_are named.
    units_from centre from now unit sent c.args.to c.args.frames.now c.in_ok-answer.answer c.in_ok-down.down c.addressed.result
    c.in_ok-answer.ensures c.in_ok-down.ensures c.addressed.ensures is frames_are named
