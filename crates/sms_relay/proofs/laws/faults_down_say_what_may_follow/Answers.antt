use Rattle.sms_relay.specs.RelayReading.{down_at}
use Rattle.sms_relay.specs.declared.message_type.Direction.TheVariants.{Down}
use Rattle.sms_relay.proofs.FaultLaws.{continues, has_front, stops}
use Rattle.sms_relay.proofs.laws.faults_down_say_what_may_follow.Goals as goal

pub returns-clause-truncated : goal.returns-clause-truncated
unfolding down_at
returns-clause-truncated c = continues Down

pub returns-clause-trailing : goal.returns-clause-trailing
unfolding down_at
returns-clause-trailing c = has_front Down

pub returns-clause-other : goal.returns-clause-other
unfolding down_at
returns-clause-other c = stops Down
