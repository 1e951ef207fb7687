use Rattle.sms_receipt.proofs.StatusOctets.{if_written}
use Rattle.sms_receipt.proofs.status.status_report_octets.Goals as goal

pub returns : goal.returns
returns c = if_written c.args.end.now c.status_report_of.result c.write_status_report.result c.status_report_of.ensures c.write_status_report.ensures.ok
