-- Receipts and status reports on which a centre can start.
use Rattle.std.specs.Prelude.{◌≡◌, ℕ, ◌<◌, ◌≤◌, List, length, true, Some, Ok}
use Rattle.sms_base.specs.Among.{Among}
use Rattle.sms_base.specs.declared.final_state.FinalState.{FinalState}
use Rattle.sms_rows.specs.table.Table.{Rises}
use Rattle.sms_tpdu.specs.declared.carrier.Carrier.TheVariants.{InData}
use Rattle.sms_tpdu.specs.declared.down.Down.TheVariants.{StatusReport}
use Rattle.sms_tpdu.specs.declared.status_report.StatusReport.{StatusReport as StatusReportOf}
use Rattle.sms_tpdu.specs.TpduReading.{down_at}
use Rattle.sms_centre_rows.specs.declared.messages.message.MessageRow.{MessageRow}
use Rattle.sms_base.specs.declared.originator.Originator.{Originator}
use Rattle.sms_base.specs.declared.originator.Originator.TheVariants.{Application, Handset}
use Rattle.sms_centre_rows.specs.messages.Messages.{message_at}
use Rattle.sms_centre_rows.specs.declared.reports.report.ReportKind.{ReportKind}
use Rattle.sms_centre_rows.specs.declared.reports.report.ReportKind.TheVariants.{Receipt, Status, Unsent}
use Rattle.sms_centre_rows.specs.declared.reports.report.ReportRow.{ReportRow}
use Rattle.sms_centre_rows.specs.reports.Reports.{report_key}

-- Its octets are a STATUS-REPORT (3GPP TS 23.040 9.2.2.3) of its message, with TP-MMS 1; of 200 octets at most.
pub record IsStatus (message_reference : ℕ) (m : MessageRow) (made : ℕ) (tpdu : List ℕ) (d : StatusReportOf) : Type 0 where
  pub read : down_at InData tpdu ≡ Ok (StatusReport d)
  pub message : d.message_reference ≡ message_reference
  pub recipient : d.recipient_address.digits ≡ m.handset
  pub submitted : d.service_centre_time_stamp ≡ m.submitted
  pub discharged : d.discharge_time ≡ made
  pub no_more : d.no_more_messages_to_send ≡ true
  pub fits : length tpdu ≤ 200

-- a receipt is of an application's message, a status report of a handset's; one that can't be sent is closed
abbrev pub FitsOriginator : ReportKind → Originator → MessageRow → ReportRow → Type 0
FitsOriginator Receipt (Application account) m r = Unit {0}
FitsOriginator Receipt (Handset n) m r = ⊥
FitsOriginator (Status reference tpdu) (Application account) m r = ⊥
FitsOriginator (Status reference tpdu) (Handset n) m r = (reference < 256) × ((d : StatusReportOf) × IsStatus n m r.made tpdu d)
FitsOriginator Unsent (Application account) m r = ⊥
FitsOriginator Unsent (Handset n) m r = r.progress.is_done ≡ true

-- its message has ended
pub record IsReport (messages : List MessageRow) (r : ReportRow) : Type 0 where
  pub place : 0 < r.place
  pub message : (m : MessageRow)
      × ((message_at r.id messages ≡ Some m) × (((state : FinalState) × (m.state ≡ Some state)) × FitsOriginator r.kind m.originator m r))

-- no message has two
abbrev pub AreOnce : List ReportRow → Type 0
AreOnce reports = (r s : ReportRow) → Among r reports → Among s reports → r.id ≡ s.id → r.place ≡ s.place

pub record SoundReports (messages : List MessageRow) (reports : List ReportRow) : Type 0 where
  pub keys : Rises report_key reports
  pub each : (r : ReportRow) → Among r reports → IsReport messages r
  pub once : AreOnce reports
