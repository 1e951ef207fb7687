-- What becomes of reports and sessions as receipts are answered, and as sessions end and are bound.
use Rattle.std.specs.Prelude.{ℕ, [], List, Bool, if◌then◌else◌, Option, Some, None}
use Rattle.sms_rows.specs.table.Table.{row_at}
use Rattle.sms_centre_rows.specs.declared.messages.message.MessageRow.{MessageRow}
use Rattle.sms_centre_rows.specs.messages.SplitReferences.{is_among}
use Rattle.sms_centre_rows.specs.declared.reports.report.ReportRow.{ReportRow}
use Rattle.sms_centre_rows.specs.reports.Receipts.{Bindings, Session, all_tried, answered_in, put_session, receipt_ended, receipts_due, remove_session}
use Rattle.sms_centre_rows.specs.reports.Receipts.{session_key}
use Rattle.sms_centre_rows.specs.reports.Reports.{report_of, reports_of}
use Rattle.sms_centre_rows.specs.waiting.Revisions.{Revised}

-- ---- an answer to a receipt: what wasn't sent in the session isn't answered there

abbrev pub bindings_answered_by : ℕ → Option Session → Bindings → Bindings
bindings_answered_by id None bindings = bindings
bindings_answered_by id (Some s) bindings = if is_among id s.unanswered then answered_in id s bindings else bindings

abbrev pub bindings_answered : ℕ → ℕ → Bindings → Bindings
bindings_answered session id bindings = bindings_answered_by id (row_at session_key session bindings.sessions) bindings

abbrev pub reports_answered_by : ℕ → Bool → ℕ → Option Session → Revised ReportRow → Revised ReportRow
reports_answered_by id is_accepted moment None t = t
reports_answered_by id is_accepted moment (Some s) t = if is_among id s.unanswered then receipt_ended is_accepted moment (report_of id (reports_of t)) t else t

abbrev pub reports_answered : ℕ → ℕ → Bool → ℕ → List Session → Revised ReportRow → Revised ReportRow
reports_answered session id is_accepted moment sessions t = reports_answered_by id is_accepted moment (row_at session_key session sessions) t

-- ---- a session ends

abbrev pub bindings_unbound_from : Option Session → Bindings → Bindings
bindings_unbound_from None bindings = bindings
bindings_unbound_from (Some s) bindings = remove_session s.number bindings

abbrev pub bindings_unbound : ℕ → Bindings → Bindings
bindings_unbound session bindings = bindings_unbound_from (row_at session_key session bindings.sessions) bindings

abbrev pub reports_unbound_from : ℕ → Option Session → Revised ReportRow → Revised ReportRow
reports_unbound_from moment None t = t
reports_unbound_from moment (Some s) t = all_tried moment s.unanswered t

abbrev pub reports_unbound : ℕ → ℕ → List Session → Revised ReportRow → Revised ReportRow
reports_unbound session moment sessions t = reports_unbound_from moment (row_at session_key session sessions) t

-- ---- a session is bound; one of its number that was bound before is bound no longer

abbrev pub session_new : ℕ → Bool → List ℕ → Session
session_new number receives account = record { number = number; account = account; receives = receives; unanswered = [] }

abbrev pub bindings_bound : ℕ → List ℕ → Bool → Bindings → Bindings
bindings_bound session account receives bindings = put_session (session_new session receives account) (bindings_unbound session bindings)

-- the receipts of the account that wait for their minute are due, if the session takes them
abbrev pub reports_due : List ℕ → Bool → ℕ → List MessageRow → Revised ReportRow → Revised ReportRow
reports_due account receives moment messages t = if receives then receipts_due moment account messages (reports_of t) t else t

abbrev pub reports_bound : ℕ → List ℕ → Bool → ℕ → List Session → List MessageRow → Revised ReportRow → Revised ReportRow
reports_bound session account receives moment sessions messages t = reports_due account receives moment messages (reports_unbound session moment sessions t)
