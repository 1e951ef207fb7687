use Rattle.sms_link.proofs.Turns.{take_turns}
use Rattle.sms_link.proofs.laws.transfers_take_turns.Goals as goal

pub returns : goal.returns
returns c = take_turns
