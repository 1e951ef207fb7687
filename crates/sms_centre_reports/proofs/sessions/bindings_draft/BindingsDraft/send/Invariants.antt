use Rattle.std.proofs.Common.{◌≡◌, ◌-◌}
use Rattle.std.specs.Prelude.{List}
use Rattle.sms_centre_rows.specs.declared.messages.message.MessageRow.{MessageRow as MessageRowOf}
use Rattle.sms_centre_rows.specs.declared.reports.report.ReportRow.{ReportRow as ReportRowOf}
use Rattle.sms_centre_rows.specs.reports.Receipts.{send_all}
use Rattle.sms_centre_rows.specs.reports.Reports.{report_key, reports_of}
use Rattle.sms_rows.specs.table.Table.{rows_from}
use Rattle.sms_centre_rows.specs.waiting.Revisions.{Revised}
use Rattle.sms_centre_reports.specs.open_reports.OpenReportsDraft.{DraftRepresents}
use Rattle.sms_centre_reports.proofs.sessions.bindings_draft.BindingsDraft.send.Given as goal

abbrev pub invariant-sending : goal.invariant-sending
invariant-sending l =
    (ms : List MessageRowOf) (t : Revised ReportRowOf) → DraftRepresents ms l.reports t
    → send_all l.now ms (rows_from report_key l.first (reports_of t)) l.self ≡ send_all l.now ms (reports_of t) l.initial.self

abbrev pub decreases-sending : goal.decreases-sending
decreases-sending l = 0x1_0000_0000_0000_0000 - l.first
