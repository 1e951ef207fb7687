-- What a STATUS-REPORT (3GPP TS 23.040 9.2.2.3) and a receipt (SMPP v3.4 appendix B) say of their message, and to whom they go.
use Rattle.std.specs.Prelude.{◌≡◌, ℕ, Some, Ok, true}
use Rattle.sms_base.specs.Among.{Among}
use Rattle.sms_base.specs.HandsetNumber.{own_address}
use Rattle.sms_base.specs.declared.carried.Carried.{Carried}
use Rattle.sms_base.specs.declared.carried.Kind.TheVariants.{Data}
use Rattle.sms_base.specs.declared.final_state.FinalState.{FinalState}
use Rattle.sms_base.specs.declared.holder.Holder.TheVariants.{Report as ReportHolder}
use Rattle.sms_base.specs.declared.originator.Originator.TheVariants.{Handset}
use Rattle.sms_centre_rows.specs.declared.messages.message.MessageRow.{MessageRow}
use Rattle.sms_centre_rows.specs.declared.reports.delivery.Delivery.{Delivery}
use Rattle.sms_centre_rows.specs.messages.Messages.{message_at}
use Rattle.sms_centre_rows.specs.reports.Receipts.{Session, is_account}
use Rattle.sms_centre_spec.specs.Draft.{Core}
use Rattle.sms_play.specs.PlayState.{PlayState}
use Rattle.sms_play.specs.Playing.{receipt_lines}
use Rattle.sms_receipt.specs.StatusReports.{status_of}
use Rattle.sms_script.specs.declared.report.rows.Direction.TheVariants.{Down}
use Rattle.sms_script.specs.declared.report.rows.FrameRow.{FrameRow}
use Rattle.sms_centre_rows.specs.declared.report_lines.ReceiptRow.{ReceiptRow}
use Rattle.sms_tpdu.specs.Codes.{status_octet}
use Rattle.sms_tpdu.specs.TpduReading.{down_at}
use Rattle.sms_tpdu.specs.declared.carrier.Carrier.TheVariants.{InData}
use Rattle.sms_tpdu.specs.declared.down.Down.TheVariants.{StatusReport}
use Rattle.sms_tpdu.specs.declared.status_report.StatusReport.{StatusReport as StatusReportOf}
use Rattle.sms_world.specs.headline.SeenFrames.{octets_down}

-- It gives back the reference of the SUBMIT (TP-MR) and names the recipient (TP-RA). By these its handset tells which message it is of. It
-- says when the centre took the message (TP-SCTS), when it ended (TP-DT), and how (TP-ST).
pub record SaysOf (m : MessageRow) (s : StatusReportOf) : Type 0 where
  pub reference : m.originator ≡ Handset s.message_reference
  pub recipient : s.recipient_address ≡ own_address m.handset
  pub submitted : s.service_centre_time_stamp ≡ m.submitted
  pub done : m.done ≡ Some s.discharge_time
  pub state : FinalState
  pub ended : m.state ≡ Some state
  pub status : s.status ≡ status_octet (status_of state)

-- Each STATUS-REPORT among the frames says that of the message for which it was made, and goes to the handset that the message is from.
abbrev pub StatusReportsSay : PlayState → Type 0
StatusReportsSay c =
    (f : FrameRow) (x : Carried) (s : StatusReportOf) → Among f c.bag → f.direction ≡ Down → f.carried ≡ Some x → x.kind ≡ Data
    → down_at InData (octets_down x.kind f.octets) ≡ Ok (StatusReport s)
    → (m : MessageRow) × (Among m c.centre.rows.messages × (x.tag ≡ ReportHolder m.id) × (f.handset ≡ m.source.digits) × SaysOf m s)

-- ---- deliver_sm (SMPP v3.4 4.6)

-- A receipt of that message is listed, with the state in which it ended. The row has all that the deliver_sm says: source and destination,
-- that state, when the message was submitted, and when it ended. It goes to a session that is bound, receives, and is of the account that
-- submitted the message.
pub record IsReceiptSent (c : Core) (x : Delivery) : Type 0 where
  pub message : MessageRow
  pub there : message_at x.id c.rows.messages ≡ Some message
  pub state : FinalState
  pub ended : message.state ≡ Some state
  pub moment : ℕ
  pub done : message.done ≡ Some moment
  pub line : ReceiptRow
  pub listed : Among line (receipt_lines c.rows.messages c.rows.reports)
  pub says : line ≡ record { id = x.id; state = state }
  pub session : Session
  pub bound : Among session c.sessions
  pub number : session.number ≡ x.session
  pub receives : session.receives ≡ true
  pub account : is_account session.account message.originator ≡ true
