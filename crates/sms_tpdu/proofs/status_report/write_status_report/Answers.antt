use Rattle.sms_tpdu.proofs.Lengths.{status_report_short}
use Rattle.sms_tpdu.proofs.status_report.write_status_report.Goals as goal

pub returns-clause-short : goal.returns-clause-short
returns-clause-short c = status_report_short c.status_report_octets.result c.args.report.now c.status_report_octets.ensures
