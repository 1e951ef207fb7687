-- Receipts to applications: the oldest first, in the session of the account that receives and has the fewest unanswered, at most ten
-- in a session. One that was refused, or whose session ended, is sent again at the next bind of its account or after a minute.
use Rattle.std.specs.Prelude.{ℕ, ◌≤◌, ◌==◌, ◌&&◌, ◌||◌, not, nat_le, nat_lt, length, List, [], ◌∷◌, ◌++◌, Bool, false, if◌then◌else◌, Option, Some, None}
use Rattle.std.specs.Str.{bytes_eq}
use Rattle.sms_base.specs.Among.{Among}
use Rattle.sms_rows.specs.table.Table.{put, without}
use Rattle.sms_centre_rows.specs.declared.messages.message.MessageRow.{MessageRow}
use Rattle.sms_base.specs.declared.originator.Originator.{Originator}
use Rattle.sms_base.specs.declared.originator.Originator.TheVariants.{Application, Handset}
use Rattle.sms_centre_rows.specs.messages.Messages.{message_at}
use Rattle.sms_centre_rows.specs.messages.SplitReferences.{is_among}
use Rattle.sms_centre_rows.specs.declared.reports.delivery.Delivery.{Delivery}
use Rattle.sms_centre_rows.specs.declared.reports.report.ReportRow.{ReportRow}
use Rattle.sms_centre_rows.specs.reports.Reports.{amend_report, is_open_receipt, report_of, reports_of}
use Rattle.sms_centre_rows.specs.declared.waiting.progress.Progress.{Progress}
use Rattle.sms_centre_rows.specs.waiting.Revisions.{Revised}
use Rattle.sms_centre_rows.specs.waiting.Trying.{due_at, finished, later, one_more}

-- ---- sessions

-- a session that is bound, and the messages whose receipts were sent in it and not answered yet
pub record Session : Type 0 where
  pub number : ℕ
  -- the name of its account
  pub account : List ℕ
  pub receives : Bool
  pub unanswered : List ℕ

abbrev pub session_key : Session → ℕ
session_key s = s.number

-- the sessions in the order of their numbers, and what was sent in them so far
pub record Bindings : Type 0 where
  pub sessions : List Session
  pub deliveries : List Delivery

abbrev pub put_session : Session → Bindings → Bindings
put_session s bindings = record bindings { sessions = put session_key s bindings.sessions }

abbrev pub remove_session : ℕ → Bindings → Bindings
remove_session number bindings = record bindings { sessions = without session_key number bindings.sessions }

-- ---- which receipts wait

abbrev pub is_account : List ℕ → Originator → Bool
is_account name (Application account) = bytes_eq account name
is_account name (Handset message_reference) = false

-- it was sent, and is not answered yet
abbrev pub is_unanswered : ℕ → List Session → Bool
is_unanswered id [] = false
is_unanswered id (s ∷ ss) = is_among id s.unanswered || is_unanswered id ss

abbrev pub waits : ℕ → ReportRow → List Session → Bool
waits moment r sessions = is_open_receipt r && (nat_le r.progress.due moment && not (is_unanswered r.id sessions))

-- ---- sending

-- it receives for the account of the message
abbrev pub receives_for : MessageRow → Session → Bool
receives_for m s = s.receives && is_account s.account m.originator

-- of two sessions the one with fewer unanswered; of equal ones the first
abbrev pub fewer_unanswered : Session → Option Session → Session
fewer_unanswered s None = s
fewer_unanswered s (Some t) = if nat_le (length s.unanswered) (length t.unanswered) then s else t

-- of the sessions that pass a test the one with the fewest unanswered; of equal ones the first
abbrev pub fewest_unanswered : (Session → Bool) → List Session → Option Session
fewest_unanswered test [] = None
fewest_unanswered test (s ∷ ss) = if test s then Some (fewer_unanswered s (fewest_unanswered test ss)) else fewest_unanswered test ss

-- the session in which the receipt of the message is sent
abbrev pub session_for : Option MessageRow → List Session → Option Session
session_for None ss = None
session_for (Some m) ss = fewest_unanswered (receives_for m) ss

-- SMPP v3.4 2.9: how many requests may be unanswered in a session
abbrev pub window : ℕ
window = 10

abbrev pub send_in : ℕ → Session → Bindings → Bindings
send_in id s bindings = record {
  sessions = put session_key (record s { unanswered = s.unanswered ++ id ∷ [] }) bindings.sessions;
  deliveries = bindings.deliveries ++ record { session = s.number; id = id } ∷ [];
}

-- where the fewest fill a window, the window of each session of the account is full: it waits
abbrev pub send_to : ℕ → Option Session → Bindings → Bindings
send_to id None bindings = bindings
send_to id (Some s) bindings = if nat_lt (length s.unanswered) window then send_in id s bindings else bindings

abbrev pub send : ℕ → List MessageRow → ReportRow → Bindings → Bindings
send moment messages r bindings =
    if waits moment r bindings.sessions then send_to r.id (session_for (message_at r.id messages) bindings.sessions) bindings else bindings

-- no session has more unanswered than its window holds
abbrev pub AreWindowed : Bindings → Type 0
AreWindowed bindings = (s : Session) → Among s bindings.sessions → length s.unanswered ≤ window

-- in the order in which they were made
abbrev pub send_all : ℕ → List MessageRow → List ReportRow → Bindings → Bindings
send_all moment messages [] bindings = bindings
send_all moment messages (r ∷ rs) bindings = send_all moment messages rs (send moment messages r bindings)

-- ---- answers

-- seconds until a receipt is sent again
abbrev pub receipt_delay : ℕ
receipt_delay = 60

abbrev pub receipt_tried : ℕ → Progress → Progress
receipt_tried moment p = record p { attempts = one_more p.attempts; due = later moment receipt_delay }

abbrev pub receipt_ended : Bool → ℕ → Option ReportRow → Revised ReportRow → Revised ReportRow
receipt_ended is_accepted moment None t = t
receipt_ended is_accepted moment (Some r) t = amend_report r (if is_accepted then finished r.progress else receipt_tried moment r.progress) t

abbrev pub without_id : ℕ → List ℕ → List ℕ
without_id id [] = []
without_id id (n ∷ ns) = if n == id then without_id id ns else n ∷ without_id id ns

abbrev pub answered_in : ℕ → Session → Bindings → Bindings
answered_in id s bindings = put_session (record s { unanswered = without_id id s.unanswered }) bindings

-- ---- the session ends: its receipts are sent again

abbrev pub all_tried : ℕ → List ℕ → Revised ReportRow → Revised ReportRow
all_tried moment [] t = t
all_tried moment (id ∷ ids) t = all_tried moment ids (receipt_ended false moment (report_of id (reports_of t)) t)

-- ---- a session is bound: a receipt of the account that waits for its minute is due now

abbrev pub is_put_off : ℕ → List ℕ → ReportRow → Option MessageRow → Bool
is_put_off moment account r None = false
is_put_off moment account r (Some m) = is_open_receipt r && (is_account account m.originator && nat_lt moment r.progress.due)

abbrev pub receipts_due : ℕ → List ℕ → List MessageRow → List ReportRow → Revised ReportRow → Revised ReportRow
receipts_due moment account messages [] t = t
receipts_due moment account messages (r ∷ rs) t =
    receipts_due moment account messages rs
    (if is_put_off moment account r (message_at r.id messages) then amend_report r (due_at moment r.progress) t else t)
