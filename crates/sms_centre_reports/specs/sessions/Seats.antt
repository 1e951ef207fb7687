-- A session as memory has it.
use Rattle.sms_centre_rows.specs.reports.Receipts.{Session}
use Rattle.sms_centre_reports.specs.declared.sessions.session.SessionEntry.{SessionEntry}

abbrev pub seat_of : SessionEntry → Session
seat_of s = record { number = s.number; account = s.account.value; receives = s.receives; unanswered = s.unanswered }
