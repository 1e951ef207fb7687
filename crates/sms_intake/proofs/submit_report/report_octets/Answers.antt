use Rattle.sms_intake.specs.SubmitReports.{submit_report_of}
use Rattle.sms_intake.proofs.ReportOctets.{if_written}
use Rattle.sms_intake.proofs.submit_report.report_octets.Goals as goal

pub returns : goal.returns
returns c = if_written (submit_report_of c.args.failure c.args.now) c.write_submit_report.result c.write_submit_report.ensures.ok
