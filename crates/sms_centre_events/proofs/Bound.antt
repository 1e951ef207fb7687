-- A session is bound: receipts move, and nothing waits otherwise for a handset.
use Rattle.std.proofs.Common.{◌≡◌, ℕ, List, Bool, true, false, Option, Some, None, refl, ◌∙◌, subst}
use Rattle.std.specs.Prelude.{not}
use Rattle.std.proofs.lemmas.Bool.{and_parts}
use Rattle.sms_base.specs.Among.{Among}
use Rattle.sms_rows.specs.table.Table.{row_at}
use Rattle.sms_rows.proofs.table.Tables.{found_among}
use Rattle.sms_centre_rows.specs.declared.reports.report.ReportRow.{ReportRow}
use Rattle.sms_centre_rows.specs.reports.Receipts.{Bindings, Session, put_session, session_key}
use Rattle.sms_centre_rows.specs.reports.Reports.{is_receipt, reports_of}
use Rattle.sms_centre_rows.specs.waiting.Revisions.{Revised}
use Rattle.sms_centre_reports.specs.open_reports.OpenReportsDraft.{OpenReportsDraftOf as ReportsOf, DraftRepresents}
use Rattle.sms_centre_reports.specs.sessions.Answering.{bindings_bound, bindings_unbound_from, reports_bound, reports_due, reports_unbound_from, session_new}
use Rattle.sms_centre_reports.specs.sessions.Awaited.{AreAwaited}
use Rattle.sms_intake.specs.declared.submission.CentreAccount.{CentreAccount}
use Rattle.sms_centre_spec.specs.Draft.{Draft, Store, messages_in, reports_in, with_reports}
use Rattle.sms_centre_spec.specs.Sessions.{bound_as, unbind, unbound_from}
use Rattle.sms_centre_spec.specs.Consistent.{IsConsistent}
use Rattle.sms_centre_spec.proofs.StagesConsistent.{consistent_still}
use Rattle.sms_centre_spec.proofs.SteadyTimes.{all_tried_steady, due_for_steady, stand_all}
use Rattle.sms_centre_draft.specs.CentreDraft.{Represents, CentreDraftOf, all_waiting}
use Rattle.sms_centre_draft.proofs.ReceiptsEnded.{AreReceipts, tried_waits}
use Rattle.sms_centre_events.proofs.Quiet.{due_waits}
use Rattle.sms_centre_draft.proofs.RepresentedMoves.{queues_alike}

-- ---- rows and what waits, as a session ends and as one is bound

record StaysSo (t : Revised ReportRow) (d : Draft) : Type 0 where
  consistent : IsConsistent (with_reports t d.store)
  waits : (h : List ℕ) → all_waiting (with_reports t d.store) h ≡ all_waiting d.store h

due_stays : (receives : Bool) (name : List ℕ) (t : Revised ReportRow) (d : Draft) → StaysSo t d → StaysSo (reports_due name receives d.store.moment (messages_in d.store) t) d
due_stays false name t d s = s
due_stays true name t d s =
    let e : Store = with_reports t d.store in
    record {
      consistent = due_for_steady IsConsistent consistent_still name e s.consistent;
      waits = λ h. due_waits d.store.moment name (messages_in d.store) (reports_of t) t d.store s.consistent s.consistent.held.report_keys (stand_all IsConsistent consistent_still e s.consistent) h ∙ s.waits h;
    }

unbound_stays : (o : Option Session) (d : Draft) (w : CentreDraftOf) → Represents d w → ((x : Session) → o ≡ Some x → AreReceipts x.unanswered (reports_in d.store)) → StaysSo (reports_unbound_from d.store.moment o d.store.reports) d
unbound_stays None d w represents receipts = record { consistent = represents.consistent; waits = λ h. refl }
unbound_stays (Some x) d w represents receipts = record {
  consistent = all_tried_steady IsConsistent consistent_still d.store.moment x.unanswered d.store.reports d.store represents.consistent;
  waits = λ h. tried_waits d.store.moment x.unanswered d.store.reports d.store represents.consistent (receipts x refl) h;
}

-- ---- a session is bound

moved_represented : (t : Revised ReportRow) (to : Bindings) (d : Draft) (w : CentreDraftOf) (bindings : Bindings) (reports : ReportsOf) → Represents d w → StaysSo t d → bindings ≡ to → DraftRepresents (messages_in d.store) reports t
    → Represents (record d { store = with_reports t d.store; bindings = to }) (record w { reports = reports; bindings = bindings })
moved_represented t to d w bindings reports represents s is tells = record {
  consistent = s.consistent;
  few = represents.few;
  setup = represents.setup;
  moment = represents.moment;
  messages = represents.messages;
  queues = queues_alike d.store.allocations d.links (all_waiting d.store) (all_waiting (with_reports t d.store)) w.queues represents.queues s.waits;
  reports = tells;
  bindings = is;
  answer = represents.answer;
}

-- the draft with reports and sessions moved is the one in which the session is bound
bound_draft : (session : ℕ) (receives : Bool) (a : CentreAccount) (o : Option Session) (d : Draft)
    → record d { store = with_reports (reports_due a.name receives d.store.moment (messages_in d.store) (reports_unbound_from d.store.moment o d.store.reports)) d.store; bindings = put_session (session_new session receives a.name) (bindings_unbound_from o d.bindings) }
    ≡ bound_as session receives (Some a) (unbound_from o d)
bound_draft session true a None d = refl
bound_draft session false a None d = refl
bound_draft session true a (Some x) d = refl
bound_draft session false a (Some x) d = refl

pub bound_represented : (session : ℕ) (receives : Bool) (a : CentreAccount) (d : Draft) (w : CentreDraftOf) (bindings : Bindings) (reports : ReportsOf) → Represents d w → AreAwaited (messages_in d.store) (reports_in d.store) d.bindings.sessions
    → bindings ≡ bindings_bound session a.name receives d.bindings → DraftRepresents (messages_in d.store) reports (reports_bound session a.name receives d.store.moment d.bindings.sessions (messages_in d.store) d.store.reports)
    → Represents (bound_as session receives (Some a) (unbind session d)) (record w { reports = reports; bindings = bindings })
unfolding AreReceipts
bound_represented session receives a d w bindings reports represents awaited is tells =
    let o : Option Session = row_at session_key session d.bindings.sessions in
    let t : Revised ReportRow = reports_unbound_from d.store.moment o d.store.reports in
    subst (λ (x : Draft). Represents x (record w { reports = reports; bindings = bindings })) (bound_draft session receives a o d)
    (moved_represented (reports_due a.name receives d.store.moment (messages_in d.store) t) (put_session (session_new session receives a.name) (bindings_unbound_from o d.bindings)) d w bindings reports represents
    (due_stays receives a.name t d (unbound_stays o d w represents (λ x e. receipts x (found_among session_key session x d.bindings.sessions e)))) is tells)
  where
    receipts : (x : Session) → Among x d.bindings.sessions → AreReceipts x.unanswered (reports_in d.store)
    receipts x among id sent =
        let one = (awaited.each x among id sent).report in
        (one.0, (one.1.0, (and_parts (is_receipt one.0.kind) (not one.0.progress.is_done) one.1.1).0))
