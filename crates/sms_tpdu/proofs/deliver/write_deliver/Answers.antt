use Rattle.sms_tpdu.proofs.Lengths.{deliver_short}
use Rattle.sms_tpdu.proofs.deliver.write_deliver.Goals as goal

pub returns-clause-short : goal.returns-clause-short
returns-clause-short c = deliver_short c.deliver_octets.result c.args.message.now c.deliver_octets.ensures
