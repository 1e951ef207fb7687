-- Which receipt is sent, and in which session, as memory has it.
use Rattle.std.specs.Prelude.{nat_le, length, if◌then◌else◌, Option, Some, None}
use Rattle.sms_centre_rows.specs.reports.Receipts.{Session}
use Rattle.sms_centre_reports.specs.open_reports.Serving.{Next}
use Rattle.sms_centre_reports.specs.declared.sessions.sending.ReceiptToSend.{ReceiptToSend}
use Rattle.sms_centre_reports.specs.declared.sessions.serving.Candidate.{Candidate}

abbrev pub receipt_to_send : Next → ReceiptToSend
receipt_to_send n = record { session = n.session.number; receipt = n.receipt }

-- the one that was made earlier
abbrev pub earlier_to_send : Option ReceiptToSend → Option ReceiptToSend → Option ReceiptToSend
earlier_to_send None other = other
earlier_to_send (Some one) None = Some one
earlier_to_send (Some one) (Some other) = Some (if nat_le one.receipt.place other.receipt.place then one else other)

-- ---- which session serves an account

abbrev pub candidate_of : Session → Candidate
candidate_of s = record { number = s.number; unanswered = length s.unanswered }

-- the one with fewer unanswered; of equal ones the first
abbrev pub fewer : Option Candidate → Option Candidate → Option Candidate
fewer None other = other
fewer (Some one) None = Some one
fewer (Some one) (Some other) = Some (if nat_le one.unanswered other.unanswered then one else other)
