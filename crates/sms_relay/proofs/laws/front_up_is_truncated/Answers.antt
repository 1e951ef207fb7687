use Rattle.sms_relay.specs.RelayReading.{up_at}
use Rattle.sms_relay.specs.declared.message_type.Direction.TheVariants.{Up}
use Rattle.sms_relay.proofs.FrontLaws.{front_short, bare_read}
use Rattle.sms_relay.proofs.laws.front_up_is_truncated.Goals as goal

pub returns-clause-truncated : goal.returns-clause-truncated
unfolding up_at
returns-clause-truncated c = front_short Up

pub returns-clause-bare : goal.returns-clause-bare
unfolding up_at
returns-clause-bare c = bare_read Up
