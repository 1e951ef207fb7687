-- The entry that a status report is about.
use Rattle.std.specs.Prelude.{◌==◌, ◌&&◌, Bool, List, [], ◌∷◌, if◌then◌else◌, Option, Some, None}
use Rattle.std.specs.Str.{bytes_eq}
use Rattle.sms_rows.specs.table.Table.{latest}
use Rattle.sms_tpdu.specs.declared.status_report.StatusReport.{StatusReport as StatusReportOf}
use Rattle.sms_handset_rows.specs.declared.outbox.out_entry.OutEntry.{OutEntry}

-- numbers are compared by their digits
abbrev pub is_reported : StatusReportOf → OutEntry → Bool
is_reported r o = (o.message_reference == r.message_reference) && bytes_eq o.destination.digits r.recipient_address.digits

-- the newest entry that the report is about
abbrev pub reported : StatusReportOf → List OutEntry → Option OutEntry
reported r [] = None
reported r (o ∷ os) = latest (if is_reported r o then Some o else None) (reported r os)
