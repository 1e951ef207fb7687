-- Which receipt is sent next, and in which session, as memory has it.
use Rattle.std.specs.Prelude.{ℕ, ◌==◌, ◌&&◌, nat_le, nat_lt, not, length, List, [], ◌∷◌, Bool, false, if◌then◌else◌, Option, Some, None}
use Rattle.std.specs.Str.{bytes_eq}
use Rattle.sms_rows.specs.index.First.{first_such, is_past_from}
use Rattle.sms_centre_rows.specs.reports.Receipts.{Session, fewest_unanswered, is_unanswered, window}
use Rattle.sms_centre_reports.specs.declared.open_reports.entry.ReceiptEntry.{ReceiptEntry}
use Rattle.sms_centre_reports.specs.open_reports.Entries.{receipt_due, receipt_key}
use Rattle.sms_centre_reports.specs.open_reports.OpenReports.{AccountOf, receipts_at}

abbrev pub receives_as : List ℕ → Session → Bool
receives_as name s = s.receives && bytes_eq name s.account

-- the session that receives for the account and has the fewest unanswered
abbrev pub serving : List ℕ → List Session → Option Session
serving name ss = fewest_unanswered (receives_as name) ss

-- from that place on, due, and not sent yet
abbrev pub is_ready : ℕ → ℕ → List Session → ReceiptEntry → Bool
is_ready first moment sessions e = is_past_from receipt_key receipt_due first moment e && not (is_unanswered e.id sessions)

abbrev pub is_session : Session → Option Session → Bool
is_session s None = false
is_session s (Some t) = t.number == s.number

-- the next that is sent in the session: it serves its account, and has room
abbrev pub next_in : ℕ → ℕ → List Session → List AccountOf → Session → Option ReceiptEntry
next_in first moment sessions accounts s =
    if is_session s (serving s.account sessions) && nat_lt (length s.unanswered) window
    then first_such (is_ready first moment sessions) (receipts_at s.account accounts) else None

-- a receipt that is sent in a session
pub record Next : Type 0 where
  pub session : Session
  pub receipt : ReceiptEntry

-- the one that was made earlier
abbrev pub earlier : Option Next → Option Next → Option Next
earlier None other = other
earlier (Some one) None = Some one
earlier (Some one) (Some other) = Some (if nat_le one.receipt.place other.receipt.place then one else other)

abbrev pub next_from : Session → Option ReceiptEntry → Option Next
next_from s None = None
next_from s (Some e) = Some (record { session = s; receipt = e })

-- the next of all
abbrev pub next_among : ℕ → ℕ → List Session → List AccountOf → List Session → Option Next
next_among first moment sessions accounts [] = None
next_among first moment sessions accounts (s ∷ ss) =
    earlier (next_from s (next_in first moment sessions accounts s)) (next_among first moment sessions accounts ss)
