-- How a message ends, and to whom that is reported.
use Rattle.std.specs.Prelude.{ℕ, Bool, true, false, if◌then◌else◌, Option, Some, None}
use Rattle.sms_base.specs.declared.final_state.FinalState.{FinalState}
use Rattle.sms_base.specs.declared.final_state.FinalState.TheVariants.{Delivered, Expired, Deleted, Undeliverable}
use Rattle.sms_centre_rows.specs.declared.messages.message.MessageRow.{MessageRow}
use Rattle.sms_base.specs.declared.originator.Originator.{Originator}
use Rattle.sms_base.specs.declared.originator.Originator.TheVariants.{Application, Handset}
use Rattle.sms_base.specs.declared.wish.Wish.{Wish}
use Rattle.sms_base.specs.declared.wish.Wish.TheVariants.{Nothing, Always, OnFailure}
use Rattle.sms_centre_rows.specs.messages.Messages.{ended}
use Rattle.sms_receipt.specs.StatusReports.{status_octets}
use Rattle.sms_centre_rows.specs.declared.reports.report.ReportKind.{ReportKind}
use Rattle.sms_centre_rows.specs.declared.reports.report.ReportKind.TheVariants.{Receipt, Status, Unsent}
use Rattle.sms_centre_rows.specs.reports.Reports.{report_made}
use Rattle.sms_centre_rows.specs.declared.waiting.handset.HandsetRow.{HandsetRow}
use Rattle.sms_centre_rows.specs.waiting.References.{handset_of}
use Rattle.sms_centre_spec.specs.Draft.{Store, handsets_in, with_given, with_message, with_reports}
use Rattle.sms_centre_spec.specs.Finals.{final_of}
use Rattle.sms_centre_spec.specs.Submitting.{reference_for}

-- ---- whether it is reported

abbrev pub is_failure : FinalState → Bool
is_failure Delivered = false
is_failure Expired = true
is_failure Deleted = true
is_failure Undeliverable = true

abbrev pub is_wished : Wish → FinalState → Bool
is_wished Nothing state = false
is_wished Always state = true
is_wished OnFailure state = is_failure state

-- ---- what reports it

abbrev pub make_report : ℕ → ReportKind → Bool → Store → Store
make_report id kind is_closed s = with_reports (report_made id kind is_closed s.moment s.reports) s

-- A status report takes a reference as a part does, and its STATUS-REPORT is made as the reference is given. Where none is free,
-- none is sent.
abbrev pub status_given : FinalState → MessageRow → HandsetRow → Option ℕ → Store → Store
status_given state m h None s = make_report m.id Unsent true s
status_given state m h (Some reference) s =
    make_report m.id (Status reference (status_octets (final_of state s.moment m))) false (with_given h reference s)

abbrev pub make_status : FinalState → MessageRow → HandsetRow → Store → Store
make_status state m h s = status_given state m h (reference_for h s) s

-- an application gets a receipt, a handset a status report
abbrev pub report_to : Originator → FinalState → MessageRow → Store → Store
report_to (Application account) state m s = make_report m.id Receipt false s
report_to (Handset message_reference) state m s = make_status state m (handset_of m.source.digits (handsets_in s)) s

abbrev pub report : FinalState → MessageRow → Store → Store
report state m s = if is_wished m.wish state then report_to m.originator state m s else s

-- ---- the end: it is reported at once

abbrev pub end : FinalState → MessageRow → Store → Store
end state m s = report state m (with_message (ended state s.moment m) s)
