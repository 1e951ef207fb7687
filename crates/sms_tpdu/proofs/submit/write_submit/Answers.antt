use Rattle.sms_tpdu.proofs.Lengths.{submit_short}
use Rattle.sms_tpdu.proofs.submit.write_submit.Goals as goal

pub returns-clause-short : goal.returns-clause-short
returns-clause-short c = submit_short c.submit_octets.result c.args.message.now c.submit_octets.ensures
