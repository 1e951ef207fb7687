use Rattle.std.proofs.Common.{◌≡◌, ◌≤◌, ◌-◌}
use Rattle.std.specs.Prelude.{List}
use Rattle.sms_rows.specs.index.First.{first_such}
use Rattle.sms_centre_rows.specs.declared.messages.message.MessageRow.{MessageRow as MessageRowOf}
use Rattle.sms_centre_rows.specs.declared.reports.report.ReportRow.{ReportRow as ReportRowOf}
use Rattle.sms_centre_rows.specs.waiting.Revisions.{Revised}
use Rattle.sms_centre_reports.specs.open_reports.OpenReports.{receipts_at}
use Rattle.sms_centre_reports.specs.open_reports.OpenReportsDraft.{DraftRepresents}
use Rattle.sms_centre_reports.specs.open_reports.Serving.{is_ready}
use Rattle.sms_centre_reports.proofs.sessions.bindings_draft.BindingsDraft.first_ready.Given as goal

abbrev pub invariant-passing : goal.invariant-passing
invariant-passing l = record {
  behind : l.first ≤ l.from;
  next : (ms : List MessageRowOf) (t : Revised ReportRowOf) → DraftRepresents ms l.reports t
      → first_such (is_ready l.first l.now l.self.sessions) (receipts_at l.account l.reports.current.accounts) ≡ first_such (is_ready l.from l.now l.self.sessions) (receipts_at l.account l.reports.current.accounts);
}

abbrev pub decreases-passing : goal.decreases-passing
decreases-passing l = 0x1_0000_0000_0000_0000 - l.from
