-- Whether a centre can start with a row of a report, where its message is looked up.
use Rattle.std.specs.Prelude.{◌≡◌, ℕ, ◌==◌, ◌&&◌, nat_le, nat_lt, is_some, length, map, List, Bool, true, false, Option, Some, None, Result, Ok, Err}
use Rattle.std.specs.List.{list_all}
use Rattle.std.specs.Str.{bytes_eq}
use Rattle.sms_base.specs.declared.originator.Originator.{Originator}
use Rattle.sms_base.specs.declared.originator.Originator.TheVariants.{Application, Handset}
use Rattle.sms_tpdu.specs.declared.carrier.Carrier.TheVariants.{InData}
use Rattle.sms_tpdu.specs.declared.down.Down.{Down}
use Rattle.sms_tpdu.specs.declared.down.Down.TheVariants.{Deliver, StatusReport, SubmitReport}
use Rattle.sms_tpdu.specs.declared.fault.TpduFault.{TpduFault}
use Rattle.sms_tpdu.specs.TpduReading.{down_at}
use Rattle.sms_centre_rows.specs.declared.messages.message.MessageRow.{MessageRow}
use Rattle.sms_centre_rows.specs.messages.Messages.{message_at}
use Rattle.sms_centre_rows.specs.declared.reports.report.ReportKind.{ReportKind}
use Rattle.sms_centre_rows.specs.declared.reports.report.ReportKind.TheVariants.{Receipt, Status, Unsent}
use Rattle.sms_centre_rows.specs.declared.reports.report.ReportRow.{ReportRow}
use Rattle.sms_centre_rows.specs.conditions.Differing.{differ}

abbrev pub is_status_of : ℕ → MessageRow → ℕ → Result Down TpduFault → Bool
is_status_of message_reference m made (Ok (StatusReport d)) =
    ((d.message_reference == message_reference) && bytes_eq d.recipient_address.digits m.handset)
    && (((d.service_centre_time_stamp == m.submitted) && (d.discharge_time == made)) && d.no_more_messages_to_send)
is_status_of message_reference m made (Ok (Deliver d)) = false
is_status_of message_reference m made (Ok (SubmitReport d)) = false
is_status_of message_reference m made (Err fault) = false

abbrev pub fits_originator : ReportKind → Originator → MessageRow → ReportRow → Bool
fits_originator Receipt (Application account) m r = true
fits_originator Receipt (Handset n) m r = false
fits_originator (Status reference tpdu) (Application account) m r = false
fits_originator (Status reference tpdu) (Handset n) m r =
    nat_lt reference 256 && (nat_le (length tpdu) 200 && is_status_of n m r.made (down_at InData tpdu))
fits_originator Unsent (Application account) m r = false
fits_originator Unsent (Handset n) m r = r.progress.is_done

-- its message has ended, and it reports that to the originator
abbrev pub reports_end : ReportRow → Option MessageRow → Bool
reports_end r None = false
reports_end r (Some m) = is_some m.state && fits_originator r.kind m.originator m r

abbrev pub is_report : List MessageRow → ReportRow → Bool
is_report messages r = reports_end r (message_at r.id messages) && nat_lt 0 r.place

abbrev pub id_of : ReportRow → ℕ
id_of r = r.id

-- each row passes, and no message has two
pub record ReportsPass (messages : List MessageRow) (reports : List ReportRow) : Type 0 where
  pub each : list_all (λ r. is_report messages r) reports ≡ true
  pub ids : differ (map id_of reports) ≡ true
