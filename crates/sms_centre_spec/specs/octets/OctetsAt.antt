-- The octets that the rows of a centre have under a key. Number 0 is the status report of the message, any other number its part.
use Rattle.std.specs.Prelude.{ℕ, ◌==◌, ◌/◌, ◌%◌, if◌then◌else◌, List, Option, Some, None}
use Rattle.sms_rows.specs.table.Table.{row_at}
use Rattle.sms_centre_rows.specs.declared.messages.part.PartRow.{PartRow}
use Rattle.sms_centre_rows.specs.messages.Messages.{part_key}
use Rattle.sms_centre_rows.specs.declared.reports.report.ReportKind.{ReportKind}
use Rattle.sms_centre_rows.specs.declared.reports.report.ReportKind.TheVariants.{Receipt, Status, Unsent}
use Rattle.sms_centre_rows.specs.declared.reports.report.ReportRow.{ReportRow}
use Rattle.sms_centre_rows.specs.reports.Reports.{report_of}
use Rattle.sms_centre_spec.specs.declared.rows.Rows.{Rows}

abbrev pub part_octets : Option PartRow → Option (List ℕ)
part_octets None = None
part_octets (Some p) = Some p.tpdu

abbrev pub kind_octets : ReportKind → Option (List ℕ)
kind_octets Receipt = None
kind_octets (Status reference tpdu) = Some tpdu
kind_octets Unsent = None

abbrev pub report_octets : Option ReportRow → Option (List ℕ)
report_octets None = None
report_octets (Some r) = kind_octets r.kind

abbrev pub octets_at : Rows → ℕ → Option (List ℕ)
octets_at rows key = if key % 256 == 0 then report_octets (report_of (key / 256) rows.reports) else part_octets (row_at part_key key rows.parts)
