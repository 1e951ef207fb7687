-- A draft whose reports and sessions are moved; all else is as it was.
use Rattle.sms_centre_rows.specs.declared.reports.report.ReportRow.{ReportRow}
use Rattle.sms_centre_rows.specs.reports.Receipts.{Bindings}
use Rattle.sms_centre_rows.specs.waiting.Revisions.{Revised}
use Rattle.sms_centre_spec.specs.Draft.{Draft, with_reports}

abbrev pub moved_to : Revised ReportRow → Bindings → Draft → Draft
moved_to reports bindings d = record d { store = with_reports reports d.store; bindings = bindings }
