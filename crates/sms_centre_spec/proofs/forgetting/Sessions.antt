-- Sessions and requests do the same without the messages that go.
use Rattle.std.proofs.Common.{◌≡◌, ℕ, List, [], ◌∷◌, Bool, true, false, Option, Some, None, refl, sym, ◌∙◌, ap, subst, eq-eqb}
use Rattle.std.specs.Prelude.{◌==◌, ◌&&◌, ◌||◌, if◌then◌else◌}
use Rattle.std.proofs.lemmas.Bool.{or_right}
use Rattle.sms_base.specs.declared.address.Address.{Address}
use Rattle.sms_base.specs.declared.final_state.FinalState.TheVariants.{Deleted}
use Rattle.sms_rows.specs.table.Table.{row_at}
use Rattle.sms_rows.proofs.table.Tables.{found_among, found_key}
use Rattle.smpp_pdu.specs.declared.cancel.CancelSm.{CancelSm}
use Rattle.smpp_pdu.specs.declared.query.QuerySm.{QuerySm}
use Rattle.smpp_pdu.specs.declared.status.CommandStatus.TheVariants.{ESME_RCANCELFAIL}
use Rattle.sms_centre_rows.specs.declared.messages.message.MessageRow.{MessageRow}
use Rattle.sms_centre_rows.specs.messages.Messages.{is_pending, message_key}
use Rattle.sms_centre_rows.specs.messages.SplitReferences.{is_among}
use Rattle.sms_centre_rows.specs.declared.reports.report.ReportRow.{ReportRow}
use Rattle.sms_centre_rows.specs.reports.Receipts.{Session, all_tried, is_account, receipt_ended, receipt_tried, remove_session, session_key}
use Rattle.sms_centre_rows.specs.reports.Reports.{report_of}
use Rattle.sms_centre_rows.proofs.reports.AllWaiting.{report_found}
use Rattle.sms_centre_rows.specs.declared.waiting.progress.Progress.{Progress}
use Rattle.sms_centre_rows.specs.waiting.Trying.{finished}
use Rattle.sms_intake.specs.declared.submission.CentreAccount.{CentreAccount}
use Rattle.sms_intake.specs.SmppIntake.{is_empty, source_in}
use Rattle.sms_centre_spec.specs.declared.answer.CentreAnswer.TheVariants.{Cancelled}
use Rattle.sms_centre_spec.specs.declared.event.CentreEvent.TheVariants.{Cancel, Query, Unbound}
use Rattle.sms_centre_spec.specs.CentreEvent.{happened}
use Rattle.sms_centre_spec.specs.Draft.{Core, Draft, Store, answer_with, draft_of, in_store, messages_in, reports_in, with_reports}
use Rattle.sms_centre_spec.specs.Ends.{end}
use Rattle.sms_centre_spec.specs.Numbers.{id_in}
use Rattle.smpp_pdu.specs.declared.address.SmeAddress.{SmeAddress}
use Rattle.sms_centre_spec.specs.Requests.{account_at, cancel_by, cancelled, is_from, is_to, message_numbered, only_to, own_message, queried, query_by, refused, to_cancel}
use Rattle.sms_centre_spec.specs.Sessions.{unbound_from}
use Rattle.sms_centre_spec.specs.SoundRows.{IsSound}
use Rattle.sms_centre_spec.specs.forgetting.Forgot.{CanForget, Same, Stays, core_without, draft_without, store_without}
use Rattle.sms_centre_spec.proofs.forgetting.Answers.{Alike, followed}
use Rattle.sms_centre_spec.proofs.forgetting.Ended.{Pair, end_pair, report_is}
use Rattle.sms_centre_spec.proofs.forgetting.Moves.{base_stays, message_look, report_far, report_look}
use Rattle.sms_centre_spec.proofs.forgetting.Submits.{alike_if}

module _ (goes : ℕ → Bool) where
  -- ---- a session ends

  receipt_pair : (b : Bool) (n id : ℕ) (s : Store) → Stays goes s → goes id ≡ false
      → Pair goes (with_reports (receipt_ended b n (report_of id (reports_in (store_without goes s))) (store_without goes s).reports) (store_without goes s)) (with_reports (receipt_ended b n (report_of id (reports_in s)) s.reports) s)
  receipt_pair b n id s k g =
      subst (λ (o : Option ReportRow). Pair goes (with_reports (receipt_ended b n o (store_without goes s).reports) (store_without goes s)) (with_reports (receipt_ended b n (report_of id (reports_in s)) s.reports) s)) (sym (report_look goes id s k g))
      (of (report_of id (reports_in s)) refl)
    where
      of : (o : Option ReportRow) → report_of id (reports_in s) ≡ o → Pair goes (with_reports (receipt_ended b n o (store_without goes s).reports) (store_without goes s)) (with_reports (receipt_ended b n o s.reports) s)
      of None e = (refl, k)
      of (Some r) e =
          let f = report_found id r (reports_in s) e in
          let q : Progress = if b then finished r.progress else receipt_tried n r.progress in (refl, report_far goes r q s k (report_is goes r q s k f.0 (ap goes f.1 ∙ g)))

  tried_pair : (n : ℕ) (ids : List ℕ) (s : Store) → Stays goes s → ((id : ℕ) → is_among id ids ≡ true → goes id ≡ false)
      → Pair goes (with_reports (all_tried n ids (store_without goes s).reports) (store_without goes s)) (with_reports (all_tried n ids s.reports) s)
  tried_pair n [] s k f = (refl, k)
  tried_pair n (id ∷ ids) s k f =
      let z : Store = store_without goes s in
      let x : Store = with_reports (receipt_ended false n (report_of id (reports_in z)) z.reports) z in
      let y : Store = with_reports (receipt_ended false n (report_of id (reports_in s)) s.reports) s in
      let p : Pair goes x y = receipt_pair false n id s k (f id (ap (λ (b : Bool). b || is_among id ids) (eq-eqb id id refl))) in
      subst (λ (e : Store). Pair goes (with_reports (all_tried n ids e.reports) e) (with_reports (all_tried n ids y.reports) y)) (sym p.0)
      (tried_pair n ids y p.1 (λ i t. f i (or_right (id == i) (is_among i ids) t)))

  pub from_alike : (o : Option Session) (d : Draft) → Stays goes d.store → ((x : Session) (id : ℕ) → o ≡ Some x → is_among id x.unanswered ≡ true → goes id ≡ false)
      → Alike goes (unbound_from o (draft_without goes d)) (unbound_from o d)
  from_alike None d k f = (refl, k)
  from_alike (Some x) d k f =
      let z : Store = store_without goes d.store in
      let p : Pair goes (with_reports (all_tried d.store.moment x.unanswered z.reports) z) (with_reports (all_tried d.store.moment x.unanswered d.store.reports) d.store) = tried_pair d.store.moment x.unanswered d.store k (λ id t. f x id refl t) in
      (ap (λ (e : Store). record { store = e; links = d.links; bindings = remove_session x.number d.bindings; answer = d.answer }) p.0, p.1)

  pub unbound_same : (session : ℕ) (c : Core) → IsSound c.rows → CanForget goes c → Same goes (happened (Unbound session) (core_without goes c)) (happened (Unbound session) c)
  unbound_same session c s can =
      let o : Option Session = row_at session_key session c.sessions in
      followed goes (unbound_from o (draft_without goes (draft_of c))) (unbound_from o (draft_of c))
      (from_alike o (draft_of c) (base_stays goes c s can.may) (λ x id e t. can.answered x id (found_among session_key session x c.sessions e) t))

  -- ---- query_sm and cancel_sm of a number that stays

  numbered_look : (o : Option ℕ) (s : Store) → Stays goes s → ((id : ℕ) → o ≡ Some id → goes id ≡ false) → message_numbered o (messages_in (store_without goes s)) ≡ message_numbered o (messages_in s)
  numbered_look None s k f = refl
  numbered_look (Some id) s k f = message_look goes id s k (f id refl)

  queried_alike : (o : Option MessageRow) (d : Draft) → Stays goes d.store → Alike goes (queried o (draft_without goes d)) (queried o d)
  queried_alike None d k = (refl, k)
  queried_alike (Some m) d k = (refl, k)

  query_alike : (a : Option CentreAccount) (q : QuerySm) (d : Draft) → Stays goes d.store → ((id : ℕ) → id_in q.message_id ≡ Some id → goes id ≡ false) → Alike goes (query_by a q (draft_without goes d)) (query_by a q d)
  query_alike None q d k f = (refl, k)
  query_alike (Some a) q d k f =
      let o : Option MessageRow = message_numbered (id_in q.message_id) (messages_in d.store) in
      subst (λ (x : Option MessageRow). Alike goes (queried (own_message a (source_in a.address q.source) x) (draft_without goes d)) (query_by (Some a) q d)) (sym (numbered_look (id_in q.message_id) d.store k f))
      (queried_alike (own_message a (source_in a.address q.source) o) d k)

  pub query_same : (account : ℕ) (q : QuerySm) (c : Core) → IsSound c.rows → CanForget goes c → ((id : ℕ) → id_in q.message_id ≡ Some id → goes id ≡ false)
      → Same goes (happened (Query account q) (core_without goes c)) (happened (Query account q) c)
  query_same account q c s can f =
      let o : Option CentreAccount = account_at account c.rows.setup.accounts in
      followed goes (query_by o q (draft_without goes (draft_of c))) (query_by o q (draft_of c)) (query_alike o q (draft_of c) (base_stays goes c s can.may) f)

  pub cancelled_alike : (o : Option MessageRow) (d : Draft) → Stays goes d.store → ((m : MessageRow) → o ≡ Some m → goes m.id ≡ false) → Alike goes (cancelled o (draft_without goes d)) (cancelled o d)
  cancelled_alike None d k f = (refl, k)
  cancelled_alike (Some m) d k f =
      let e : Draft = draft_without goes d in
      let p : Pair goes (end Deleted m (store_without goes d.store)) (end Deleted m d.store) = end_pair goes Deleted m d.store k (f m refl) in
      alike_if goes (is_pending m) (answer_with Cancelled (in_store (end Deleted m (store_without goes d.store)) e)) (answer_with Cancelled (in_store (end Deleted m d.store) d)) (refused ESME_RCANCELFAIL e) (refused ESME_RCANCELFAIL d)
      (ap (λ (x : Store). answer_with Cancelled (in_store x e)) p.0, p.1) (refl, k)

  own_is : (a : CentreAccount) (source : Option Address) (o : Option MessageRow) (m : MessageRow) → own_message a source o ≡ Some m → o ≡ Some m
  own_is a source None m e = let bad : None ≡ Some m = e in absurd cc
  own_is a source (Some x) m e = by (is_account a.name x.originator && is_from source x) e
    where
      by : (b : Bool) → (if b then Some x else None) ≡ Some m → Some x ≡ Some m
      by true q = q
      by false q = let bad : None ≡ Some m = q in absurd cc

  only_is : (destination : SmeAddress) (o : Option MessageRow) (m : MessageRow) → only_to destination o ≡ Some m → o ≡ Some m
  only_is destination None m e = let bad : None ≡ Some m = e in absurd cc
  only_is destination (Some x) m e = by (is_to destination x) e
    where
      by : (b : Bool) → (if b then Some x else None) ≡ Some m → Some x ≡ Some m
      by true q = q
      by false q = let bad : None ≡ Some m = q in absurd cc

  numbered_is : (o : Option ℕ) (m : MessageRow) (s : Store) → ((id : ℕ) → o ≡ Some id → goes id ≡ false) → message_numbered o (messages_in s) ≡ Some m → goes m.id ≡ false
  numbered_is None m s f e = let bad : None ≡ Some m = e in absurd cc
  numbered_is (Some id) m s f e = ap goes (found_key message_key id m (messages_in s) e) ∙ f id refl

  cancel_alike : (a : Option CentreAccount) (q : CancelSm) (d : Draft) → Stays goes d.store → ((id : ℕ) → id_in q.message_id ≡ Some id → goes id ≡ false) → Alike goes (cancel_by a q (draft_without goes d)) (cancel_by a q d)
  cancel_alike None q d k f = (refl, k)
  cancel_alike (Some a) q d k f =
      let e : Draft = draft_without goes d in
      let n : Option ℕ = id_in q.message_id in
      let w : Option Address = source_in a.address q.source in
      let own : Option MessageRow = own_message a w (message_numbered n (messages_in d.store)) in
      let o : Option MessageRow = to_cancel a q (messages_in d.store) in
      let small : Draft = cancelled (to_cancel a q (messages_in (store_without goes d.store))) e in
      let inner : Alike goes small (cancelled o d) =
      subst (λ (x : Option MessageRow). Alike goes (cancelled (only_to q.destination (own_message a w x)) e) (cancelled o d)) (sym (numbered_look n d.store k f))
      (cancelled_alike o d k (λ m t. numbered_is n m d.store f (own_is a w (message_numbered n (messages_in d.store)) m (only_is q.destination own m t)))) in
      alike_if goes (is_empty q.message_id) (refused ESME_RCANCELFAIL e) (refused ESME_RCANCELFAIL d) small (cancelled o d) (refl, k) inner

  pub cancel_same : (account : ℕ) (q : CancelSm) (c : Core) → IsSound c.rows → CanForget goes c → ((id : ℕ) → id_in q.message_id ≡ Some id → goes id ≡ false)
      → Same goes (happened (Cancel account q) (core_without goes c)) (happened (Cancel account q) c)
  cancel_same account q c s can f =
      let o : Option CentreAccount = account_at account c.rows.setup.accounts in
      followed goes (cancel_by o q (draft_without goes (draft_of c))) (cancel_by o q (draft_of c)) (cancel_alike o q (draft_of c) (base_stays goes c s can.may) f)
