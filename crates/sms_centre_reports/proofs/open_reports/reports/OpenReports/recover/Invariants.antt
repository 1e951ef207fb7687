use Rattle.std.proofs.Common.{take}
use Rattle.sms_centre_reports.specs.open_reports.OpenReports.{Represents}
use Rattle.sms_centre_reports.proofs.open_reports.reports.OpenReports.recover.Given as goal

abbrev pub invariant-loop-row : goal.invariant-loop-row
invariant-loop-row l = Represents l.messages l.reports (take l.row-index l.rows)
