use Rattle.std.proofs.Common.{◌≡◌, ◌≤◌, drop}
use Rattle.std.specs.Prelude.{List, IfSome}
use Rattle.std.specs.Option.{option_map}
use Rattle.sms_centre_rows.specs.declared.messages.message.MessageRow.{MessageRow as MessageRowOf}
use Rattle.sms_centre_rows.specs.declared.reports.report.ReportRow.{ReportRow as ReportRowOf}
use Rattle.sms_centre_rows.specs.waiting.Revisions.{Revised}
use Rattle.sms_centre_reports.specs.open_reports.OpenReportsDraft.{DraftRepresents}
use Rattle.sms_centre_reports.specs.open_reports.Serving.{next_among}
use Rattle.sms_centre_reports.specs.declared.sessions.sending.ReceiptToSend.{ReceiptToSend}
use Rattle.sms_centre_reports.specs.sessions.SessionReceipts.{earlier_to_send, receipt_to_send}
use Rattle.sms_centre_reports.proofs.sessions.bindings_draft.BindingsDraft.next.Given as goal

abbrev pub invariant-loop-seat : goal.invariant-loop-seat
invariant-loop-seat l = record {
  behind : IfSome l.best (λ (g : ReceiptToSend). l.first ≤ g.receipt.place);
  next : (ms : List MessageRowOf) (t : Revised ReportRowOf) → DraftRepresents ms l.reports t
      → earlier_to_send l.best (option_map receipt_to_send (next_among l.first l.now l.self.sessions l.reports.current.accounts (drop l.seat-index l.seats)))
      ≡ option_map receipt_to_send (next_among l.first l.now l.self.sessions l.reports.current.accounts l.seats);
}
