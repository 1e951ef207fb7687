-- What the rows of receipts and status reports say of the world.
use Rattle.std.specs.Prelude.{◌≡◌, ℕ, List, Bool, true, false, Option, Some, None}
use Rattle.sms_base.specs.Among.{Among}
use Rattle.sms_base.specs.declared.final_state.FinalState.{FinalState}
use Rattle.sms_centre_rows.specs.reports.Reports.{is_status, report_of}
use Rattle.sms_centre_rows.specs.declared.reports.report.ReportKind.{ReportKind}
use Rattle.sms_centre_rows.specs.declared.reports.report.ReportRow.{ReportRow}
use Rattle.sms_world_model.specs.World.{ReceiptOf}

pub record ReportSeen : Type 0 where
  pub kind : ReportKind
  -- answered or dropped
  pub is_done : Bool

abbrev pub report_seen : Option ReportRow → Option ReportSeen
report_seen None = None
report_seen (Some r) = Some (record { kind = r.kind; is_done = r.progress.is_done })

-- by the numbers of their messages
abbrev pub reports_by : List ReportRow → ℕ → Option ReportSeen
reports_by reports id = report_seen (report_of id reports)

pub record RefinesReports (reports : ℕ → Option ReportSeen) (receipts : List ReceiptOf) (open_ones : List ℕ) : Type 0 where
  pub there : (id : ℕ) (r : ReportSeen) → reports id ≡ Some r → (state : FinalState) × Among (record { id = id; state = state }) receipts
  pub only : (x : ReceiptOf) → Among x receipts → (r : ReportSeen) × (reports x.id ≡ Some r)
  -- a status report is open until it is answered or dropped
  pub still : (id : ℕ) (r : ReportSeen) → reports id ≡ Some r → is_status r.kind ≡ true → r.is_done ≡ false → Among id open_ones
  pub opened : (id : ℕ) → Among id open_ones → (r : ReportSeen) × ((reports id ≡ Some r) × (is_status r.kind ≡ true) × (r.is_done ≡ false))
