-- Receipts that are answered, and sessions that end and are bound.
use Rattle.std.proofs.Common.{◌≡◌, ℕ, List, Bool, true, Option, Some, sym, ◌∙◌, ap, subst}
use Rattle.std.proofs.lemmas.Bool.{cond-true}
use Rattle.sms_base.specs.Among.{Among}
use Rattle.sms_rows.specs.table.Table.{row_at}
use Rattle.sms_rows.proofs.table.Tables.{found_among, found_key}
use Rattle.sms_centre_rows.specs.declared.messages.message.MessageRow.{MessageRow}
use Rattle.sms_centre_rows.specs.messages.SplitReferences.{is_among}
use Rattle.sms_centre_rows.specs.declared.reports.report.ReportRow.{ReportRow}
use Rattle.sms_centre_rows.specs.reports.Receipts.{Bindings, Session, all_tried, receipt_ended, remove_session, session_key}
use Rattle.sms_centre_rows.specs.reports.Reports.{report_of, reports_of}
use Rattle.sms_centre_reports.specs.open_reports.Awaited.{IsAwaited}
use Rattle.sms_centre_reports.specs.open_reports.OpenReportsDraft.{OpenReportsDraftOf, DraftRepresents}
use Rattle.sms_centre_reports.specs.sessions.Answering.{bindings_unbound, bindings_unbound_from, reports_answered, reports_answered_by, reports_unbound, reports_unbound_from}
use Rattle.sms_centre_reports.specs.sessions.Awaited.{AreAwaited}
use Rattle.sms_centre_rows.specs.waiting.Revisions.{Revised}
use Rattle.sms_centre_spec.proofs.forgetting.Runs.{among_so}

module _ (ms : List MessageRow) (t : Revised ReportRow) (ss : List Session) (awaited : AreAwaited ms (reports_of t) ss) (session : ℕ) (s : Session) (there : Some s ≡ row_at session_key session ss) where
  pub awaited_in : (id : ℕ) → Among id s.unanswered → IsAwaited ms (reports_of t) s.account id
  awaited_in id m = awaited.each s (found_among session_key session s ss (sym there)) id m

  pub answers_so : (q : OpenReportsDraftOf) (id moment : ℕ) (b : Bool) (name : List ℕ) → name ≡ s.account → is_among id s.unanswered ≡ true
      → (IsAwaited ms (reports_of t) name id → DraftRepresents ms q (receipt_ended b moment (report_of id (reports_of t)) t)) → DraftRepresents ms q (reports_answered session id b moment ss t)
  answers_so q id moment b name own sent ends =
      subst (λ (o : Option Session). DraftRepresents ms q (reports_answered_by id b moment o t)) there
      (subst (λ (u : Revised ReportRow). DraftRepresents ms q u) (sym (cond-true (is_among id s.unanswered) (receipt_ended b moment (report_of id (reports_of t)) t) t sent))
      (ends (subst (λ (n : List ℕ). IsAwaited ms (reports_of t) n id) (sym own) (awaited_in id (among_so id s.unanswered sent)))))

  pub unbinds_so : (q : OpenReportsDraftOf) (moment : ℕ) (name ids : List ℕ) → name ≡ s.account → ids ≡ s.unanswered
      → (((id : ℕ) → Among id ids → IsAwaited ms (reports_of t) name id) → DraftRepresents ms q (all_tried moment ids t)) → DraftRepresents ms q (reports_unbound session moment ss t)
  unbinds_so q moment name ids own all ends =
      subst (λ (o : Option Session). DraftRepresents ms q (reports_unbound_from moment o t)) there
      (subst (λ (x : List ℕ). DraftRepresents ms q (all_tried moment x t)) all
      (ends (λ id m. subst (λ (n : List ℕ). IsAwaited ms (reports_of t) n id) (sym own) (awaited_in id (subst (λ (x : List ℕ). Among id x) all m)))))

pub removed_so : (session : ℕ) (s : Session) (bindings after : Bindings) → Some s ≡ row_at session_key session bindings.sessions → after ≡ remove_session session bindings → after ≡ bindings_unbound session bindings
removed_so session s bindings after there is =
    is ∙ ap (λ (n : ℕ). remove_session n bindings) (sym (found_key session_key session s bindings.sessions (sym there))) ∙ ap (λ (o : Option Session). bindings_unbound_from o bindings) there
