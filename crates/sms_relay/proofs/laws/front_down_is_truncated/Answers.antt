use Rattle.sms_relay.specs.RelayReading.{down_at}
use Rattle.sms_relay.specs.declared.message_type.Direction.TheVariants.{Down}
use Rattle.sms_relay.proofs.FrontLaws.{front_short, bare_read}
use Rattle.sms_relay.proofs.laws.front_down_is_truncated.Goals as goal

pub returns-clause-truncated : goal.returns-clause-truncated
unfolding down_at
returns-clause-truncated c = front_short Down

pub returns-clause-bare : goal.returns-clause-bare
unfolding down_at
returns-clause-bare c = bare_read Down
