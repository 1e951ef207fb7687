use Rattle.std.proofs.Common.{◌-◌}
use Rattle.std.specs.Prelude.{List}
use Rattle.sms_centre_rows.specs.declared.messages.message.MessageRow.{MessageRow as MessageRowOf}
use Rattle.sms_centre_rows.specs.declared.reports.report.ReportRow.{ReportRow as ReportRowOf}
use Rattle.sms_centre_rows.specs.waiting.Revisions.{Revised}
use Rattle.sms_centre_reports.specs.open_reports.OpenReportsDraft.{DraftRepresents}
use Rattle.sms_centre_reports.proofs.open_reports.PutOff.{IsOnTheWay}
use Rattle.sms_centre_reports.proofs.open_reports.draft.OpenReportsDraft.hasten_receipts.Given as goal

abbrev pub invariant-coming : goal.invariant-coming
invariant-coming l = (ms : List MessageRowOf) (t : Revised ReportRowOf) → DraftRepresents ms l.initial.self t → IsOnTheWay l.now l.account ms l.first l.self t

abbrev pub decreases-coming : goal.decreases-coming
decreases-coming l = 0x1_0000_0000_0000_0000 - l.first
