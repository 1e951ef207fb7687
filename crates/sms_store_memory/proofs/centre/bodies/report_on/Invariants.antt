use Rattle.std.proofs.Common.{◌≡◌, drop}
use Rattle.sms_centre_rows.specs.reports.Reports.{report_of}
use Rattle.sms_store_memory.proofs.centre.bodies.report_on.Given as goal

abbrev pub invariant-loop-report : goal.invariant-loop-report
invariant-loop-report l = report_of l.id (drop l.report-index l.reports) ≡ report_of l.id l.reports
