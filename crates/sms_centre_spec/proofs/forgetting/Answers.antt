-- An answer to a receipt does the same without the messages that go.
use Rattle.std.proofs.Common.{◌≡◌, ℕ, List, Bool, true, false, Option, Some, None, refl, ◌∙◌, ap}
use Rattle.std.specs.Prelude.{if◌then◌else◌}
use Rattle.sms_rows.specs.table.Table.{row_at}
use Rattle.sms_rows.proofs.table.Tables.{found_among}
use Rattle.sms_centre_rows.specs.declared.messages.bar.BarRow.{BarRow}
use Rattle.sms_centre_rows.specs.messages.SplitReferences.{is_among}
use Rattle.sms_centre_rows.specs.declared.reports.report.ReportRow.{ReportRow}
use Rattle.sms_centre_rows.specs.declared.messages.message.MessageRow.{MessageRow}
use Rattle.sms_centre_rows.specs.declared.messages.part.PartRow.{PartRow}
use Rattle.sms_centre_rows.specs.declared.messages.priority.PriorityRow.{PriorityRow}
use Rattle.sms_centre_rows.specs.reports.Receipts.{Session, answered_in, receipt_ended, receipt_tried, session_key}
use Rattle.sms_centre_rows.specs.reports.Reports.{report_key, report_of}
use Rattle.sms_centre_rows.proofs.reports.AllWaiting.{report_found}
use Rattle.sms_centre_rows.specs.waiting.Trying.{finished}
use Rattle.sms_centre_spec.specs.declared.event.CentreEvent.TheVariants.{DeliverAnswered}
use Rattle.sms_centre_spec.specs.declared.rows.Rows.{Rows}
use Rattle.sms_centre_spec.specs.CentreEvent.{follow, happened}
use Rattle.sms_centre_spec.specs.Draft.{Core, Draft, Store, core_of, draft_of, reports_in, rows_of, with_reports}
use Rattle.sms_centre_spec.specs.SoundRows.{IsSound}
use Rattle.sms_centre_spec.specs.Sessions.{answered_by, receipt_answered}
use Rattle.sms_centre_spec.specs.forgetting.Forgetting.{rows_without}
use Rattle.sms_centre_spec.specs.forgetting.Forgot.{CanForget, Same, Stays, core_without, draft_without, store_without}
use Rattle.sms_centre_spec.proofs.forgetting.Kept.{not_both}
use Rattle.sms_centre_spec.proofs.forgetting.Going.{one_row}
use Rattle.sms_centre_spec.proofs.forgetting.Follow.{follow_same}
use Rattle.sms_centre_spec.proofs.forgetting.Moves.{bars_look, base_stays, report_far, report_look}

-- a draft and what follows it
abbrev pub Alike : (ℕ → Bool) → Draft → Draft → Type 0
Alike goes small large = (small ≡ draft_without goes large) × Stays goes large.store

pub rows_alike : (goes : ℕ → Bool) (s : Store) → Stays goes s → rows_of (store_without goes s) ≡ rows_without goes (rows_of s)
rows_alike goes s k =
    let z : Rows = rows_of (store_without goes s) in
    let w : Rows = rows_without goes (rows_of s) in
    ap (λ (l : List MessageRow). record z { messages = l }) k.messages
    ∙ ap (λ (l : List PartRow). record z { messages = w.messages; parts = l }) k.parts
    ∙ ap (λ (l : List ReportRow). record z { messages = w.messages; parts = w.parts; reports = l }) k.reports
    ∙ ap (λ (l : List PriorityRow). record z { messages = w.messages; parts = w.parts; reports = w.reports; priorities = l }) k.priorities
    ∙ ap (λ (l : List BarRow). record w { bars = l }) (bars_look goes s k)

pub followed : (goes : ℕ → Bool) (small large : Draft) → Alike goes small large → Same goes (follow small) (follow large)
followed goes small large a = record {
  draft = ap (λ (d : Draft). follow d) a.0 ∙ follow_same goes large a.1;
  stays = a.1;
  core = ap (λ (d : Draft). core_of (follow d)) a.0 ∙ ap (λ (d : Draft). core_of d) (follow_same goes large a.1)
      ∙ ap (λ (r : Rows). record { rows = r; moment = large.store.moment; links = (follow large).links.all; sessions = (follow large).bindings.sessions }) (rows_alike goes large.store a.1);
}

-- ---- a receipt is answered

module _ (goes : ℕ → Bool) where
  ended_stays : (b : Bool) (o : Option ReportRow) (id : ℕ) (s : Store) → Stays goes s → goes id ≡ false → report_of id (reports_in s) ≡ o → Stays goes (with_reports (receipt_ended b s.moment o s.reports) s)
  ended_stays b None id s k stays e = k
  ended_stays b (Some r) id s k stays e =
      let f = report_found id r (reports_in s) e in
      report_far goes r (if b then finished r.progress else receipt_tried s.moment r.progress) s k
      (λ x a g q. absurd (not_both (goes x.id) g (ap (λ (y : ReportRow). goes y.id) (one_row report_key x r (reports_in s) k.report_keys a f.0 q) ∙ ap goes f.1 ∙ stays)))

  answered_alike : (id : ℕ) (b : Bool) (o : Option Session) (d : Draft) → Stays goes d.store → ((x : Session) → o ≡ Some x → is_among id x.unanswered ≡ true → goes id ≡ false)
      → Alike goes (answered_by id b o (draft_without goes d)) (answered_by id b o d)
  answered_alike id b None d k f = (refl, k)
  answered_alike id b (Some x) d k f = by (is_among id x.unanswered) (λ t. f x refl t)
    where
      z : Store
      z = store_without goes d.store

      small : Draft
      small = record (draft_without goes d) { store = receipt_answered id b z; bindings = answered_in id x d.bindings }

      large : Draft
      large = record d { store = receipt_answered id b d.store; bindings = answered_in id x d.bindings }

      by : (c : Bool) → (c ≡ true → goes id ≡ false) → Alike goes (if c then small else draft_without goes d) (if c then large else d)
      by false g = (refl, k)
      by true g =
          let stays : goes id ≡ false = g refl in
          let same : small ≡ draft_without goes large = ap (λ (o : Option ReportRow). record small { store = with_reports (receipt_ended b d.store.moment o z.reports) z }) (report_look goes id d.store k stays) ∙ is (report_of id (reports_in d.store)) in
          (same, ended_stays b (report_of id (reports_in d.store)) id d.store k stays refl)
        where
          is : (o : Option ReportRow) → record small { store = with_reports (receipt_ended b d.store.moment o z.reports) z } ≡ draft_without goes (record large { store = with_reports (receipt_ended b d.store.moment o d.store.reports) d.store })
          is None = refl
          is (Some r) = refl

  pub answered_same : (session id : ℕ) (b : Bool) (c : Core) → IsSound c.rows → CanForget goes c
      → Same goes (happened (DeliverAnswered session id b) (core_without goes c)) (happened (DeliverAnswered session id b) c)
  answered_same session id b c s can =
      let o : Option Session = row_at session_key session c.sessions in
      followed goes (answered_by id b o (draft_without goes (draft_of c))) (answered_by id b o (draft_of c))
      (answered_alike id b o (draft_of c) (base_stays goes c s can.may) (λ x e t. can.answered x id (found_among session_key session x c.sessions e) t))
