use Rattle.sms_rows.specs.table.Table.{row_at}
use Rattle.sms_rows.proofs.table.Tables.{found_among}
use Rattle.sms_centre_rows.specs.reports.Receipts.{session_key}
use Rattle.sms_centre_reports.specs.sessions.Answering.{bindings_unbound, reports_unbound}
use Rattle.sms_centre_reports.proofs.awaited.Awaiting.{all_sent, answers_keep, bind_keeps, ends_keep}
use Rattle.sms_centre_reports.proofs.awaited.laws.what_is_awaited_stays_so.Goals as goal

pub returns : goal.returns
returns c = record {
  sent = λ moment ms rows bindings alone k. all_sent moment ms rows alone rows bindings (λ r m. m) k;
  answered = λ ms session id moment b t bindings keys k.
      answers_keep ms moment b t keys id (row_at session_key session bindings.sessions) bindings (λ s e. found_among session_key session s bindings.sessions e) k;
  unbound = λ ms session moment t bindings k. ends_keep ms moment (row_at session_key session bindings.sessions) bindings t (λ s e. found_among session_key session s bindings.sessions e) k;
  bound = λ ms session moment account receives t bindings k.
      bind_keeps ms session moment account receives (bindings_unbound session bindings) (reports_unbound session moment bindings.sessions t)
      (ends_keep ms moment (row_at session_key session bindings.sessions) bindings t (λ s e. found_among session_key session s bindings.sessions e) k);
}
