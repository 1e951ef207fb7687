use Rattle.sms_tpdu.proofs.Lengths.{deliver_report_short}
use Rattle.sms_tpdu.proofs.deliver_report.write_deliver_report.Goals as goal

pub returns-clause-short : goal.returns-clause-short
returns-clause-short c = deliver_report_short c.deliver_report_octets.result c.args.report.now c.deliver_report_octets.ensures
