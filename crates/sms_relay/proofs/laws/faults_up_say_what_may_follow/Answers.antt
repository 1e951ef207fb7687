use Rattle.sms_relay.specs.RelayReading.{up_at}
use Rattle.sms_relay.specs.declared.message_type.Direction.TheVariants.{Up}
use Rattle.sms_relay.proofs.FaultLaws.{continues, has_front, stops}
use Rattle.sms_relay.proofs.laws.faults_up_say_what_may_follow.Goals as goal

pub returns-clause-truncated : goal.returns-clause-truncated
unfolding up_at
returns-clause-truncated c = continues Up

pub returns-clause-trailing : goal.returns-clause-trailing
unfolding up_at
returns-clause-trailing c = has_front Up

pub returns-clause-other : goal.returns-clause-other
unfolding up_at
returns-clause-other c = stops Up
