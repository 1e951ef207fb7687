use Rattle.sms_tpdu.proofs.NameValues.{relay_short}
use Rattle.sms_tpdu.proofs.address_field.write_relay_address.Goals as goal

pub returns-clause-short : goal.returns-clause-short
returns-clause-short c = relay_short c.relay_octets.result c.args.address.now c.requires c.relay_octets.ensures
