-- Which receipt is sent now, and in which session.
use Rattle.std.specs.Prelude.{ℕ, nat_lt, length, List, if◌then◌else◌, Option, Some, None}
use Rattle.sms_centre_rows.specs.declared.messages.message.MessageRow.{MessageRow}
use Rattle.sms_centre_rows.specs.messages.Messages.{message_at}
use Rattle.sms_centre_rows.specs.declared.reports.report.ReportRow.{ReportRow}
use Rattle.sms_centre_rows.specs.reports.Receipts.{Session, session_for, waits, window}

-- the session has room for one more
abbrev pub with_room : Option Session → Option Session
with_room None = None
with_room (Some s) = if nat_lt (length s.unanswered) window then Some s else None

-- the session in which it is sent now
abbrev pub sending_session : ℕ → List MessageRow → List Session → ReportRow → Option Session
sending_session moment messages sessions r =
    if waits moment r sessions then with_room (session_for (message_at r.id messages) sessions) else None
