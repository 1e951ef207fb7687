use Rattle.std.proofs.Common.{ℕ, drop}
use Rattle.sms_base.specs.Among.{Among}
use Rattle.sms_centre_rows.specs.declared.messages.message.MessageRow.{MessageRow as MessageRowOf}
use Rattle.std.specs.Prelude.{List}
use Rattle.sms_centre_rows.specs.declared.reports.report.ReportRow.{ReportRow as ReportRowOf}
use Rattle.sms_centre_rows.specs.reports.Reports.{reports_of}
use Rattle.sms_centre_rows.specs.waiting.Revisions.{Revised}
use Rattle.sms_centre_reports.specs.open_reports.Awaited.{IsAwaited}
use Rattle.sms_centre_reports.specs.open_reports.OpenReportsDraft.{DraftRepresents}
use Rattle.sms_centre_reports.proofs.open_reports.ReceiptsMoved.{IsPuttingOff}
use Rattle.sms_centre_reports.proofs.open_reports.draft.OpenReportsDraft.put_off_receipts.Given as goal

abbrev pub invariant-loop-id : goal.invariant-loop-id
invariant-loop-id l =
    (ms : List MessageRowOf) (t : Revised ReportRowOf) → DraftRepresents ms l.initial.self t → ((id : ℕ) → Among id l.ids → IsAwaited ms (reports_of t) l.account id)
    → IsPuttingOff ms l.now l.account (drop l.id-index l.ids) l.ids l.self t
