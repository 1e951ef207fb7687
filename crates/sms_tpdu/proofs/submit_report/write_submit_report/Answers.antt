use Rattle.sms_tpdu.proofs.Lengths.{submit_report_short}
use Rattle.sms_tpdu.proofs.submit_report.write_submit_report.Goals as goal

pub returns-clause-short : goal.returns-clause-short
returns-clause-short c = submit_report_short c.submit_report_octets.result c.args.report.now c.submit_report_octets.ensures
