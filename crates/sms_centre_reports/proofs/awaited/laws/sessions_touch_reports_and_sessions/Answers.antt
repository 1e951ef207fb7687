use Rattle.sms_rows.specs.table.Table.{row_at}
use Rattle.sms_centre_rows.specs.reports.Receipts.{session_key}
use Rattle.sms_centre_reports.proofs.awaited.AsDefined.{answered_as, bound_so, none_bound, unbound_as}
use Rattle.sms_centre_reports.proofs.awaited.laws.sessions_touch_reports_and_sessions.Goals as goal

pub returns : goal.returns
returns c = record {
  answered = λ session id b d. answered_as id b (row_at session_key session d.bindings.sessions) d;
  unbound = λ session d. unbound_as (row_at session_key session d.bindings.sessions) d;
  bound = λ session place receives a d e. bound_so session place receives a d e;
  no_account = none_bound;
}
