-- The sessions of applications: they are bound, take receipts and answer them, and end.
use Rattle.std.specs.Prelude.{ℕ, List, [], Bool, if◌then◌else◌, Option, Some, None}
use Rattle.sms_rows.specs.table.Table.{row_at}
use Rattle.sms_centre_rows.specs.messages.SplitReferences.{is_among}
use Rattle.sms_centre_rows.specs.reports.Receipts.{Session, all_tried, answered_in, put_session, receipt_ended, receipts_due, remove_session, send_all}
use Rattle.sms_centre_rows.specs.reports.Receipts.{session_key}
use Rattle.sms_centre_rows.specs.reports.Reports.{report_of}
use Rattle.sms_intake.specs.declared.submission.CentreAccount.{CentreAccount}
use Rattle.sms_centre_spec.specs.Draft.{Draft, Store, messages_in, reports_in, with_reports}
use Rattle.sms_centre_spec.specs.Requests.{account_at}

-- ---- receipts are sent

abbrev pub send : Draft → Draft
send d = record d { bindings = send_all d.store.moment (messages_in d.store) (reports_in d.store) d.bindings }

-- ---- an answer to a receipt

abbrev pub receipt_answered : ℕ → Bool → Store → Store
receipt_answered id is_accepted s = with_reports (receipt_ended is_accepted s.moment (report_of id (reports_in s)) s.reports) s

-- what wasn't sent in the session isn't answered there
abbrev pub answered_by : ℕ → Bool → Option Session → Draft → Draft
answered_by id is_accepted None d = d
answered_by id is_accepted (Some session) d =
    if is_among id session.unanswered
    then record d { store = receipt_answered id is_accepted d.store; bindings = answered_in id session d.bindings }
    else d

abbrev pub deliver_answered : ℕ → ℕ → Bool → Draft → Draft
deliver_answered session id is_accepted d = answered_by id is_accepted (row_at session_key session d.bindings.sessions) d

-- ---- unbind

abbrev pub unbound_from : Option Session → Draft → Draft
unbound_from None d = d
unbound_from (Some session) d = record d {
  store = with_reports (all_tried d.store.moment session.unanswered d.store.reports) d.store;
  bindings = remove_session session.number d.bindings;
}

abbrev pub unbind : ℕ → Draft → Draft
unbind session d = unbound_from (row_at session_key session d.bindings.sessions) d

-- ---- bind

abbrev pub due_for : List ℕ → Store → Store
due_for account s = with_reports (receipts_due s.moment account (messages_in s) (reports_in s) s.reports) s

abbrev pub session_of : ℕ → Bool → List ℕ → Session
session_of number receives account = record { number = number; account = account; receives = receives; unanswered = [] }

abbrev pub bound_as : ℕ → Bool → Option CentreAccount → Draft → Draft
bound_as session receives None d = d
bound_as session receives (Some account) d = record d {
  store = if receives then due_for account.name d.store else d.store;
  bindings = put_session (session_of session receives account.name) d.bindings;
}

-- a session of that number that was bound before is bound no longer
abbrev pub bind : ℕ → ℕ → Bool → Draft → Draft
bind session place receives d = bound_as session receives (account_at place d.store.setup.accounts) (unbind session d)
