use Rattle.std.proofs.Common.{None}
use Rattle.sms_control.specs.LinkStep.{fresh}
use Rattle.sms_control.proofs.TurnLaws.{turns}
use Rattle.sms_control.proofs.laws.transactions_take_turns.Goals as goal

pub returns : goal.returns
returns c = λ calls. turns calls fresh None tt
