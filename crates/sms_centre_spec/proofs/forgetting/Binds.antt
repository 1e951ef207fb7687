-- A bind does the same without the messages that go.
use Rattle.std.proofs.Common.{◌≡◌, ℕ, List, [], ◌∷◌, Bool, true, false, Option, Some, None, refl, sym, ◌∙◌, ap, subst, inl, inr, ⊎_elim}
use Rattle.std.specs.Prelude.{◌⊎◌, ◌&&◌, not, nat_lt, if◌then◌else◌}
use Rattle.std.proofs.lemmas.Bool.{and_left, and_right, cases_Bool, cond-false}
use Rattle.sms_base.specs.Among.{Among}
use Rattle.sms_rows.specs.table.Table.{row_at}
use Rattle.sms_rows.proofs.table.Tables.{found_among}
use Rattle.sms_centre_rows.specs.declared.messages.message.MessageRow.{MessageRow}
use Rattle.sms_centre_rows.specs.messages.Messages.{message_at, message_key}
use Rattle.sms_centre_rows.specs.declared.reports.report.ReportRow.{ReportRow}
use Rattle.sms_centre_rows.specs.reports.Receipts.{Bindings, Session, is_account, is_put_off, put_session, receipts_due, session_key}
use Rattle.sms_centre_rows.specs.reports.Reports.{amend_report, is_open_receipt, is_receipt, report_key, report_reaching}
use Rattle.sms_centre_rows.specs.declared.waiting.progress.Progress.{Progress}
use Rattle.sms_centre_rows.specs.waiting.Revisions.{Revised}
use Rattle.sms_centre_rows.specs.waiting.Trying.{due_at}
use Rattle.sms_intake.specs.declared.submission.CentreAccount.{CentreAccount}
use Rattle.sms_centre_spec.specs.declared.event.CentreEvent.TheVariants.{Bound}
use Rattle.sms_centre_spec.specs.CentreEvent.{happened}
use Rattle.sms_centre_spec.specs.Draft.{Core, Draft, Store, draft_of, messages_in, reports_in, with_report_at, with_reports}
use Rattle.sms_centre_spec.specs.Requests.{account_at}
use Rattle.sms_centre_spec.specs.Sessions.{bound_as, due_for, session_of, unbound_from}
use Rattle.sms_centre_spec.specs.SoundRows.{IsSound}
use Rattle.sms_centre_spec.proofs.NextNumbers.{among_amended}
use Rattle.sms_centre_spec.specs.forgetting.Forgetting.{kept, report_id}
use Rattle.sms_centre_spec.specs.forgetting.Forgot.{CanForget, Same, Stays, core_without, draft_without, store_without}
use Rattle.sms_centre_spec.proofs.forgetting.Answers.{Alike, followed}
use Rattle.sms_centre_spec.proofs.forgetting.Ended.{Pair, pair_if}
use Rattle.sms_centre_spec.proofs.forgetting.Going.{one_row}
use Rattle.sms_centre_spec.proofs.forgetting.Kept.{kept_gone, kept_here, not_both}
use Rattle.sms_centre_spec.proofs.forgetting.Looks.{Closed, message_stays}
use Rattle.sms_centre_spec.proofs.forgetting.Moves.{base_stays, report_far}
use Rattle.sms_centre_spec.proofs.forgetting.Sessions.{from_alike}
use Rattle.sms_centre_spec.proofs.forgetting.Ticks.{then_alike}

module _ (goes : ℕ → Bool) where
  closed_put : (n : ℕ) (a : List ℕ) (r : ReportRow) (o : Option MessageRow) → r.progress.is_done ≡ true → is_put_off n a r o ≡ false
  closed_put n a r None e = refl
  closed_put n a r (Some m) e =
      and_left (is_open_receipt r) (is_account a m.originator && nat_lt n r.progress.due) (and_right (is_receipt r.kind) (not r.progress.is_done) (ap not e))

  -- no report that goes is in the place of one of these that stay
  abbrev AreApart : List ReportRow → Store → Type 0
  AreApart rs s = (r x : ReportRow) → Among r rs → goes r.id ≡ false → Among x (reports_in s) → goes x.id ≡ true → x.place ≡ r.place → ⊥

  apart_after : (r : ReportRow) (q : Progress) (rs : List ReportRow) (s : Store) → AreApart rs s → AreApart rs (with_report_at r q s)
  apart_after r q rs s f w x a g b t e =
      let h = among_amended report_key report_reaching (report_key r) q x (reports_in s) b in
      ⊎_elim
      (λ (same : x ≡ h.0). f w h.0 a g h.1.0 (ap (λ (y : ReportRow). goes y.id) (sym same) ∙ t) (ap (λ (y : ReportRow). y.place) (sym same) ∙ e))
      (λ (same : (report_key h.0 ≡ report_key r) × (x ≡ report_reaching q h.0)).
      f w h.0 a g h.1.0 (ap (λ (y : ReportRow). goes y.id) (sym same.1) ∙ t) (ap (λ (y : ReportRow). y.place) (sym same.1) ∙ e))
      h.1.1

  due_pair : (n : ℕ) (a : List ℕ) (ms : List MessageRow) (rs : List ReportRow) (s : Store) → Stays goes s → Closed goes rs → AreApart rs s
      → Pair goes (with_reports (receipts_due n a (kept message_key goes ms) (kept report_id goes rs) (store_without goes s).reports) (store_without goes s)) (with_reports (receipts_due n a ms rs s.reports) s)
  due_pair n a ms [] s k closed f = (refl, k)
  due_pair n a ms (r ∷ rs) s k closed f =
      let z : Store = store_without goes s in
      let ks : List MessageRow = kept message_key goes ms in
      let js : List ReportRow = kept report_id goes rs in
      let q : Progress = due_at n r.progress in
      let b : Bool = is_put_off n a r (message_at r.id ms) in
      let large : Store = with_reports (receipts_due n a ms (r ∷ rs) s.reports) s in
      ⊎_elim
      (λ (t : goes r.id ≡ true).
      let same : (if b then amend_report r q s.reports else s.reports) ≡ s.reports = cond-false b (amend_report r q s.reports) s.reports (closed_put n a r (message_at r.id ms) (closed r (inl refl) t)) in
      subst (λ (l : List ReportRow). Pair goes (with_reports (receipts_due n a ks l z.reports) z) large) (sym (kept_gone report_id goes r rs t))
      (subst (λ (u : Revised ReportRow). Pair goes (with_reports (receipts_due n a ks js z.reports) z) (with_reports (receipts_due n a ms rs u) s)) (sym same)
      (due_pair n a ms rs s k (λ w c. closed w (inr c)) (λ w x c. f w x (inr c)))))
      (λ (t : goes r.id ≡ false).
      subst (λ (l : List ReportRow). Pair goes (with_reports (receipts_due n a ks l z.reports) z) large) (sym (kept_here report_id goes r rs t))
      (subst (λ (o : Option MessageRow). Pair goes (with_reports (receipts_due n a ks js (if is_put_off n a r o then amend_report r q z.reports else z.reports)) z) large) (sym (message_stays goes r.id ms t))
      (⊎_elim
      (λ (e : b ≡ true).
      subst (λ (c : Bool). Pair goes (with_reports (receipts_due n a ks js (if c then amend_report r q z.reports else z.reports)) z) (with_reports (receipts_due n a ms rs (if c then amend_report r q s.reports else s.reports)) s)) (sym e)
      (due_pair n a ms rs (with_report_at r q s) (report_far goes r q s k (λ x c g h. absurd (f r x (inl refl) t c g h))) (λ w c. closed w (inr c)) (apart_after r q rs s (λ w x c. f w x (inr c)))))
      (λ (e : b ≡ false).
      subst (λ (c : Bool). Pair goes (with_reports (receipts_due n a ks js (if c then amend_report r q z.reports else z.reports)) z) (with_reports (receipts_due n a ms rs (if c then amend_report r q s.reports else s.reports)) s)) (sym e)
      (due_pair n a ms rs s k (λ w c. closed w (inr c)) (λ w x c. f w x (inr c))))
      (cases_Bool b))))
      (cases_Bool (goes r.id))

  for_pair : (a : List ℕ) (s : Store) → Stays goes s → Pair goes (due_for a (store_without goes s)) (due_for a s)
  for_pair a s k =
      let z : Store = store_without goes s in
      subst (λ (l : List MessageRow). Pair goes (with_reports (receipts_due s.moment a l (reports_in z) z.reports) z) (due_for a s)) (sym k.messages)
      (subst (λ (l : List ReportRow). Pair goes (with_reports (receipts_due s.moment a (kept message_key goes (messages_in s)) l z.reports) z) (due_for a s)) (sym k.reports)
      (due_pair s.moment a (messages_in s) (reports_in s) s k k.closed
      (λ r x b g c t e. not_both (goes x.id) t (ap (λ (y : ReportRow). goes y.id) (one_row report_key x r (reports_in s) k.report_keys c b e) ∙ g))))

  as_alike : (session : ℕ) (receives : Bool) (o : Option CentreAccount) (d : Draft) → Stays goes d.store → Alike goes (bound_as session receives o (draft_without goes d)) (bound_as session receives o d)
  as_alike session receives None d k = (refl, k)
  as_alike session receives (Some a) d k =
      let z : Store = store_without goes d.store in
      let bindings : Bindings = put_session (session_of session receives a.name) d.bindings in
      let p : Pair goes (if receives then due_for a.name z else z) (if receives then due_for a.name d.store else d.store) = pair_if goes receives (due_for a.name z) (due_for a.name d.store) z d.store (for_pair a.name d.store k) (refl, k) in
      (ap (λ (e : Store). record { store = e; links = d.links; bindings = bindings; answer = d.answer }) p.0, p.1)

  pub bound_same : (session account : ℕ) (receives : Bool) (c : Core) → IsSound c.rows → CanForget goes c → Same goes (happened (Bound session account receives) (core_without goes c)) (happened (Bound session account receives) c)
  bound_same session account receives c s can =
      let d : Draft = draft_of c in
      let o : Option Session = row_at session_key session c.sessions in
      let a : Option CentreAccount = account_at account c.rows.setup.accounts in
      let p : Alike goes (unbound_from o (draft_without goes d)) (unbound_from o d) =
      from_alike goes o d (base_stays goes c s can.may) (λ x id e t. can.answered x id (found_among session_key session x c.sessions e) t) in
      followed goes (bound_as session receives a (unbound_from o (draft_without goes d))) (bound_as session receives a (unbound_from o d))
      (then_alike goes (bound_as session receives a) (as_alike session receives a) (unbound_from o (draft_without goes d)) (unbound_from o d) p)
