-- What was sent in sessions and not answered yet.
use Rattle.std.specs.Prelude.{◌≡◌, ℕ, List}
use Rattle.sms_base.specs.Among.{Among}
use Rattle.sms_centre_rows.specs.declared.messages.message.MessageRow.{MessageRow}
use Rattle.sms_centre_rows.specs.declared.reports.report.ReportRow.{ReportRow}
use Rattle.sms_centre_rows.specs.reports.Receipts.{Session}
use Rattle.sms_centre_reports.specs.open_reports.Awaited.{IsAwaited}

-- It is an open receipt of a message of the session's account, and was sent in that session alone.
pub record AreAwaited (messages : List MessageRow) (rows : List ReportRow) (sessions : List Session) : Type 0 where
  pub each : (s : Session) → Among s sessions → (id : ℕ) → Among id s.unanswered → IsAwaited messages rows s.account id
  pub apart : (s other : Session) → Among s sessions → Among other sessions → (id : ℕ) → Among id s.unanswered → Among id other.unanswered
      → s.number ≡ other.number
