-- What becomes of reports and sessions is what the definition makes of a draft.
use Rattle.std.proofs.Common.{◌≡◌, ℕ, List, [], ◌∷◌, Bool, true, false, Option, Some, None, refl, sym, ◌∙◌, ap, ⊎_elim}
use Rattle.std.specs.Prelude.{◌==◌, ◌||◌, if◌then◌else◌}
use Rattle.std.proofs.lemmas.Bool.{cases_Bool, cond-true, cond-false}
use Rattle.sms_rows.specs.table.Table.{row_at}
use Rattle.sms_intake.specs.declared.submission.CentreAccount.{CentreAccount}
use Rattle.sms_centre_rows.specs.messages.SplitReferences.{is_among}
use Rattle.sms_centre_rows.specs.declared.reports.report.ReportRow.{ReportRow}
use Rattle.sms_centre_rows.specs.reports.Receipts.{Bindings, Session, answered_in, put_session, receipt_ended, session_key}
use Rattle.sms_centre_rows.specs.reports.Reports.{report_of, reports_of}
use Rattle.sms_centre_rows.specs.declared.waiting.revision.Revision.{Revision}
use Rattle.sms_centre_rows.specs.declared.waiting.revision.Revision.TheVariants.{Put, Amend, Remove}
use Rattle.sms_centre_rows.specs.waiting.Revisions.{Revised}
use Rattle.sms_centre_reports.specs.open_reports.OpenReportsDraft.{is_made, tpdu_in, tpdu_made}
use Rattle.sms_centre_reports.specs.sessions.Answering.{bindings_answered_by, bindings_bound, bindings_unbound_from, reports_answered_by, reports_bound, reports_due, reports_unbound_from, session_new}
use Rattle.sms_centre_spec.specs.Draft.{Draft, Store, messages_in, with_reports}
use Rattle.sms_centre_spec.specs.Offering.{puts_report, report_tpdu}
use Rattle.sms_centre_spec.specs.Requests.{account_at}
use Rattle.sms_centre_spec.specs.Sessions.{answered_by, bind, bound_as, due_for, unbind, unbound_from}
use Rattle.sms_centre_reports.specs.awaited.Moving.{moved_to}

pub answered_as : (id : ℕ) (b : Bool) (o : Option Session) (d : Draft) → answered_by id b o d ≡ moved_to (reports_answered_by id b d.store.moment o d.store.reports) (bindings_answered_by id o d.bindings) d
answered_as id b None d = refl
answered_as id b (Some s) d =
    let t : Revised ReportRow = receipt_ended b d.store.moment (report_of id (reports_of d.store.reports)) d.store.reports in
    let bindings : Bindings = answered_in id s d.bindings in
    ⊎_elim
    (λ (e : is_among id s.unanswered ≡ true).
    cond-true (is_among id s.unanswered) (moved_to t bindings d) d e
    ∙ sym (ap (λ (u : Revised ReportRow). moved_to u (if is_among id s.unanswered then bindings else d.bindings) d) (cond-true (is_among id s.unanswered) t d.store.reports e)
    ∙ ap (λ (x : Bindings). moved_to t x d) (cond-true (is_among id s.unanswered) bindings d.bindings e)))
    (λ (e : is_among id s.unanswered ≡ false).
    cond-false (is_among id s.unanswered) (moved_to t bindings d) d e
    ∙ sym (ap (λ (u : Revised ReportRow). moved_to u (if is_among id s.unanswered then bindings else d.bindings) d) (cond-false (is_among id s.unanswered) t d.store.reports e)
    ∙ ap (λ (x : Bindings). moved_to d.store.reports x d) (cond-false (is_among id s.unanswered) bindings d.bindings e)))
    (cases_Bool (is_among id s.unanswered))

pub unbound_as : (o : Option Session) (d : Draft) → unbound_from o d ≡ moved_to (reports_unbound_from d.store.moment o d.store.reports) (bindings_unbound_from o d.bindings) d
unbound_as None d = refl
unbound_as (Some s) d = refl

due_as : (receives : Bool) (a : CentreAccount) (d : Draft) → (if receives then due_for a.name d.store else d.store) ≡ with_reports (reports_due a.name receives d.store.moment (messages_in d.store) d.store.reports) d.store
due_as true a d = refl
due_as false a d = refl

pub bound_as_said : (session : ℕ) (receives : Bool) (a : CentreAccount) (o : Option Session) (d : Draft)
    → bound_as session receives (Some a) (unbound_from o d)
    ≡ moved_to (reports_due a.name receives d.store.moment (messages_in d.store) (reports_unbound_from d.store.moment o d.store.reports)) (put_session (session_new session receives a.name) (bindings_unbound_from o d.bindings)) d
bound_as_said session receives a None d = ap (λ (s : Store). record d { store = s; bindings = put_session (session_new session receives a.name) d.bindings }) (due_as receives a d)
bound_as_said session receives a (Some x) d =
    let e : Draft = unbound_from (Some x) d in
    ap (λ (s : Store). record e { store = s; bindings = put_session (session_new session receives a.name) e.bindings }) (due_as receives a e)

pub bound_so : (session place : ℕ) (receives : Bool) (a : CentreAccount) (d : Draft) → account_at place d.store.setup.accounts ≡ Some a
    → bind session place receives d ≡ moved_to (reports_bound session a.name receives d.store.moment d.bindings.sessions (messages_in d.store) d.store.reports) (bindings_bound session a.name receives d.bindings) d
bound_so session place receives a d e =
    ap (λ (o : Option CentreAccount). bound_as session receives o (unbind session d)) e ∙ bound_as_said session receives a (row_at session_key session d.bindings.sessions) d

pub none_bound : (session place : ℕ) (receives : Bool) (d : Draft) → account_at place d.store.setup.accounts ≡ None → bind session place receives d ≡ unbind session d
none_bound session place receives d e = ap (λ (o : Option CentreAccount). bound_as session receives o (unbind session d)) e

-- ---- what is made

pub puts_as : (id : ℕ) (news : List (Revision ReportRow)) → is_made id news ≡ puts_report id news
puts_as id [] = refl
puts_as id (Put r ∷ news) = ap (λ (b : Bool). (r.id == id) || b) (puts_as id news)
puts_as id (Amend n progress ∷ news) = puts_as id news
puts_as id (Remove n ∷ news) = puts_as id news

pub octets_as : (o : Option ReportRow) → tpdu_in o ≡ report_tpdu o
octets_as None = refl
octets_as (Some r) = refl

pub made_as : (id : ℕ) (t : Revised ReportRow) → tpdu_made id t ≡ (if puts_report id t.news then Some (report_tpdu (report_of id (reports_of t))) else None)
made_as id t =
    ap (λ (b : Bool). if b then Some (tpdu_in (report_of id (reports_of t))) else None) (puts_as id t.news)
    ∙ ap (λ (octets : List ℕ). if puts_report id t.news then Some octets else None) (octets_as (report_of id (reports_of t)))
