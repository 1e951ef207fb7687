use Rattle.sms_relay_run.proofs.relay_laws.Cases.{relays}
use Rattle.sms_relay_run.proofs.relay_laws.laws.an_empty_centre_relays_a_unit.Goals as goal

pub returns : goal.returns
returns c = relays
