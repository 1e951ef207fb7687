-- What is firm is kept where messages expire, old status reports are dropped and receipts are put off: each is looked at as it
-- stood when the walk began, and no other stage of the walk has touched it.
use Rattle.std.proofs.Common.{◌≡◌, ℕ, ◌<◌, List, [], ◌∷◌, Bool, false, Option, Some, None, refl, sym, ◌∙◌, ap, subst, inl, inr, ⊎_elim, arith}
use Rattle.std.proofs.lemmas.Bool.{and_parts, cases_eq, cond_both}
use Rattle.std.specs.Prelude.{nat_le, ◌&&◌, if◌then◌else◌}
use Rattle.sms_base.specs.Among.{Among}
use Rattle.sms_base.specs.declared.final_state.FinalState.{FinalState}
use Rattle.sms_base.specs.declared.final_state.FinalState.TheVariants.{Expired}
use Rattle.sms_rows.specs.table.Table.{AllAbove, Rises, put}
use Rattle.sms_rows.proofs.table.Tables.{among_found, row_at_put_other}
use Rattle.sms_centre_rows.specs.declared.messages.message.MessageRow.{MessageRow}
use Rattle.sms_base.specs.declared.originator.Originator.{Originator}
use Rattle.sms_base.specs.declared.originator.Originator.TheVariants.{Application, Handset}
use Rattle.sms_centre_rows.specs.messages.Messages.{ended, is_pending, message_at, message_key}
use Rattle.sms_centre_rows.specs.declared.reports.report.ReportRow.{ReportRow}
use Rattle.sms_centre_rows.specs.reports.Receipts.{all_tried, is_put_off, receipt_ended, receipt_tried, receipts_due}
use Rattle.sms_centre_rows.specs.reports.Reports.{amend_report, is_open_status, report_key, report_of, reports_of}
use Rattle.sms_centre_rows.specs.reports.Waiting.{Alone}
use Rattle.sms_centre_rows.proofs.reports.AllWaiting.{report_behind, report_found, report_here}
use Rattle.sms_centre_rows.proofs.reports.ReportRows.{amended_other}
use Rattle.sms_centre_rows.specs.declared.waiting.handset.HandsetRow.{HandsetRow}
use Rattle.sms_centre_rows.specs.declared.waiting.progress.Progress.{Progress}
use Rattle.sms_centre_rows.specs.waiting.References.{handset_of}
use Rattle.sms_centre_rows.specs.waiting.Revisions.{Revised}
use Rattle.sms_centre_rows.specs.waiting.Trying.{due_at, finished, later}
use Rattle.sms_centre_spec.specs.CentreEvent.{dropped, drop_all, expire_all, expired, report_limit}
use Rattle.sms_centre_spec.specs.Draft.{Store, handsets_in, messages_in, reports_in, with_message, with_report_at, with_reports}
use Rattle.sms_centre_spec.specs.Ends.{end, is_wished, report_to, status_given}
use Rattle.sms_centre_spec.specs.Sessions.{due_for, receipt_answered}
use Rattle.sms_centre_spec.specs.Submitting.{reference_for}
use Rattle.sms_centre_spec.specs.Transfers.{report_closed}
use Rattle.sms_centre_spec.specs.Consistent.{IsConsistent}
use Rattle.sms_centre_spec.proofs.Steady.{IsFirm, IsStill, firm_of, report_own}

-- ---- rows that stand somewhere among others of greater keys

pub above_among : {A : Type 0} (key : A → ℕ) (n : ℕ) (x : A) (xs : List A) → AllAbove key n xs → Among x xs → n < key x
above_among key n x [] above among = absurd among
above_among key n x (y ∷ ys) above among = ⊎_elim
    (λ (e : x ≡ y). subst (λ z. n < key z) (sym e) above.0)
    (λ (a : Among x ys). above_among key n x ys above.1 a)
    among

-- ---- an end touches the one message, and reports

status_given_messages : (f : FinalState) (m : MessageRow) (h : HandsetRow) (o : Option ℕ) (s : Store) → messages_in (status_given f m h o s) ≡ messages_in s
status_given_messages f m h None s = refl
status_given_messages f m h (Some r) s = refl

report_to_messages : (o : Originator) (f : FinalState) (m : MessageRow) (s : Store) → messages_in (report_to o f m s) ≡ messages_in s
report_to_messages (Application account) f m s = refl
report_to_messages (Handset n) f m s =
    let h : HandsetRow = handset_of m.source.digits (handsets_in s) in status_given_messages f m h (reference_for h s) s

pub end_messages : (f : FinalState) (m : MessageRow) (s : Store) → messages_in (end f m s) ≡ put message_key (ended f s.moment m) (messages_in s)
end_messages f m s =
    let e : Store = with_message (ended f s.moment m) s in
    cond_both (is_wished m.wish f) (report_to m.originator f m e) e (λ (x : Store). messages_in x ≡ messages_in e) (λ t. report_to_messages m.originator f m e) (λ t. refl)

pub end_leaves : (f : FinalState) (m : MessageRow) (id : ℕ) (s : Store) → ¬ (m.id ≡ id) → message_at id (messages_in (end f m s)) ≡ message_at id (messages_in s)
end_leaves f m id s ne =
    ap (λ (ms : List MessageRow). message_at id ms) (end_messages f m s) ∙ row_at_put_other message_key id (ended f s.moment m) (messages_in s) ne

-- ---- each row of a list stands in the store as it does there

abbrev pub MessagesInStore : List MessageRow → Store → Type 0
MessagesInStore ms s = (m : MessageRow) → Among m ms → message_at m.id (messages_in s) ≡ Some m

abbrev pub ReportsInStore : List ReportRow → Store → Type 0
ReportsInStore rs s = (r : ReportRow) → Among r rs → report_of r.id (reports_in s) ≡ Some r

-- one report's progress leaves the others
pub far_leaves : (r : ReportRow) (q : Progress) (rs : List ReportRow) (s : Store) → Rises report_key (reports_in s) → Rises report_key (r ∷ rs) → ReportsInStore (r ∷ rs) s
    → ReportsInStore rs (with_report_at r q s)
far_leaves r q rs s keys rises stand x among =
    let there : report_of r.id (reports_in s) ≡ Some r = stand r (inl refl) in
    let was : report_of x.id (reports_in s) ≡ Some x = stand x (inr among) in
    let above : r.place < x.place = above_among report_key r.place x rs rises.0 among in
    amended_other x.id r q (reports_in s) keys there (λ e. apart above (sym there ∙ ap (λ (id : ℕ). report_of id (reports_in s)) e ∙ was)) ∙ was
  where
    apart : r.place < x.place → Some r ≡ Some x → ⊥
    apart above e = let same : r ≡ x = cc in let places : r.place ≡ x.place = ap (λ (y : ReportRow). y.place) same in omega (arith, above, places)

-- a report that stands there is found
pub report_none : (id : ℕ) (r : ReportRow) (rs : List ReportRow) → report_of id rs ≡ None → Among r rs → r.id ≡ id → ⊥
report_none id r [] none among own = among
report_none id r (x ∷ xs) none among own = ⊎_elim
    (λ (e : x.id ≡ id). let bad : Some x ≡ None = sym (report_here id x xs e) ∙ none in absurd cc)
    (λ (ne : x.id ≡ id → ⊥). ⊎_elim
    (λ (e : r ≡ x). ne (ap (λ (y : ReportRow). y.id) (sym e) ∙ own))
    (λ (a : Among r xs). report_none id r xs (sym (report_behind id x xs ne) ∙ none) a own)
    among)
    (cases_eq x.id id)

-- each report of a consistent store stands in it
stand_alone : (s : Store) → IsConsistent s → ReportsInStore (reports_in s) s
stand_alone s consistent r among = found r (report_of r.id (reports_in s)) refl consistent.held.alone among where
  found : (r : ReportRow) (o : Option ReportRow) → report_of r.id (reports_in s) ≡ o → Alone (reports_in s) → Among r (reports_in s) → report_of r.id (reports_in s) ≡ Some r
  found r None e alone among = absurd (report_none r.id r (reports_in s) e among refl)
  found r (Some x) e alone among =
      let at = report_found r.id x (reports_in s) e in e ∙ ap (λ (y : ReportRow). Some y) (alone x r at.0 among at.1)

module _ (P : Store → Type 0) (c : IsFirm P) where
  -- ---- messages expire

  expire_all_firm : (ms : List MessageRow) (s : Store) → P s → Rises message_key ms → MessagesInStore ms s → P (expire_all ms s)
  expire_all_firm [] s k rises stand = k
  expire_all_firm (m ∷ ms) s k rises stand =
      let is_over : Bool = is_pending m && nat_le m.limit s.moment in
      let both = cond_both is_over (end Expired m s) s (λ (e : Store). P e × MessagesInStore ms e)
      (λ t. (
        c.ended Expired m s k (stand m (inl refl)) (and_parts (is_pending m) (nat_le m.limit s.moment) t).0 refl,
        λ x among. end_leaves Expired m x.id s (apart m x (above_among message_key m.id x ms rises.0 among)) ∙ stand x (inr among),
      ))
      (λ t. (k, λ x among. stand x (inr among))) in
      expire_all_firm ms (if is_over then end Expired m s else s) both.0 rises.1 both.1
    where
      apart : (m x : MessageRow) → m.id < x.id → ¬ (m.id ≡ x.id)
      apart m x above e = omega (arith, above, e)

  pub expired_firm : (s : Store) → P s → P (expired s)
  expired_firm s k =
      let keys = (c.consistent s k).message_keys in
      expire_all_firm (messages_in s) s k keys (λ m among. among_found message_key m (messages_in s) keys among)

  -- ---- old status reports are dropped

  drop_all_firm : (rs : List ReportRow) (s : Store) → P s → Rises report_key rs → ReportsInStore rs s → P (drop_all rs s)
  drop_all_firm [] s k rises stand = k
  drop_all_firm (r ∷ rs) s k rises stand =
      let is_old : Bool = is_open_status r && nat_le (later r.made report_limit) s.moment in
      let both = cond_both is_old (report_closed r s) s (λ (e : Store). P e × ReportsInStore rs e)
      (λ t. (
        c.report_far r (finished r.progress) s k (stand r (inl refl)) (inr (and_parts (is_open_status r) (nat_le (later r.made report_limit) s.moment) t).0),
        far_leaves r (finished r.progress) rs s (c.consistent s k).held.report_keys rises stand,
      ))
      (λ t. (k, λ x among. stand x (inr among))) in
      drop_all_firm rs (if is_old then report_closed r s else s) both.0 rises.1 both.1

  pub dropped_firm : (s : Store) → P s → P (dropped s)
  dropped_firm s k = drop_all_firm (reports_in s) s k (c.consistent s k).held.report_keys (stand_alone s (c.consistent s k))

  -- ---- receipts go again

  receipt_tried_firm : (n id : ℕ) (o : Option ReportRow) (t : Revised ReportRow) (s : Store) → P (with_reports t s) → report_of id (reports_of t) ≡ o → P (with_reports (receipt_ended false n o t) s)
  receipt_tried_firm n id None t s k there = k
  receipt_tried_firm n id (Some r) t s k there = c.report_far r (receipt_tried n r.progress) (with_reports t s) k (report_own id r (with_reports t s) there) (inl refl)

  pub all_tried_firm : (n : ℕ) (ids : List ℕ) (t : Revised ReportRow) (s : Store) → P (with_reports t s) → P (with_reports (all_tried n ids t) s)
  all_tried_firm n [] t s k = k
  all_tried_firm n (id ∷ ids) t s k =
      all_tried_firm n ids (receipt_ended false n (report_of id (reports_of t)) t) s (receipt_tried_firm n id (report_of id (reports_of t)) t s k refl)

  receipts_due_firm : (n : ℕ) (a : List ℕ) (ms : List MessageRow) (rs : List ReportRow) (t : Revised ReportRow) (s : Store) → P (with_reports t s) → Rises report_key rs → ReportsInStore rs (with_reports t s)
      → P (with_reports (receipts_due n a ms rs t) s)
  receipts_due_firm n a ms [] t s k rises stand = k
  receipts_due_firm n a ms (r ∷ rs) t s k rises stand =
      let is_one : Bool = is_put_off n a r (message_at r.id ms) in
      let both = cond_both is_one (amend_report r (due_at n r.progress) t) t (λ (u : Revised ReportRow). P (with_reports u s) × ReportsInStore rs (with_reports u s))
      (λ e. (
        c.report_far r (due_at n r.progress) (with_reports t s) k (stand r (inl refl)) (inl refl),
        far_leaves r (due_at n r.progress) rs (with_reports t s) (c.consistent (with_reports t s) k).held.report_keys rises stand,
      ))
      (λ e. (k, λ x among. stand x (inr among))) in
      receipts_due_firm n a ms rs (if is_one then amend_report r (due_at n r.progress) t else t) s both.0 rises.1 both.1

  pub due_for_firm : (a : List ℕ) (s : Store) → P s → P (due_for a s)
  due_for_firm a s k = receipts_due_firm s.moment a (messages_in s) (reports_in s) s.reports s k (c.consistent s k).held.report_keys (stand_alone s (c.consistent s k))

module _ (P : Store → Type 0) (c : IsStill P) where
  -- ---- receipts are answered

  receipt_ended_steady : (b : Bool) (n id : ℕ) (o : Option ReportRow) (t : Revised ReportRow) (s : Store) → P (with_reports t s) → report_of id (reports_of t) ≡ o → P (with_reports (receipt_ended b n o t) s)
  receipt_ended_steady b n id None t s k there = k
  receipt_ended_steady b n id (Some r) t s k there =
      c.report_far r (if b then finished r.progress else receipt_tried n r.progress) (with_reports t s) k (report_own id r (with_reports t s) there)
      (cond_both b (finished r.progress) (receipt_tried n r.progress) (λ (q : Progress). q.is_done ≡ false → r.progress.is_done ≡ false) (λ t e. absurd cc) (λ t e. e))

  pub answered_steady : (id : ℕ) (b : Bool) (s : Store) → P s → P (receipt_answered id b s)
  answered_steady id b s k = receipt_ended_steady b s.moment id (report_of id (reports_in s)) s.reports s k refl

  -- ---- what is steady is firm

  pub stand_all : (s : Store) → P s → ReportsInStore (reports_in s) s
  stand_all s k = stand_alone s (c.consistent s k)

  pub expired_steady : (s : Store) → P s → P (expired s)
  expired_steady s k = expired_firm P (firm_of P c) s k

  pub dropped_steady : (s : Store) → P s → P (dropped s)
  dropped_steady s k = dropped_firm P (firm_of P c) s k

  pub all_tried_steady : (n : ℕ) (ids : List ℕ) (t : Revised ReportRow) (s : Store) → P (with_reports t s) → P (with_reports (all_tried n ids t) s)
  all_tried_steady n ids t s k = all_tried_firm P (firm_of P c) n ids t s k

  pub due_for_steady : (a : List ℕ) (s : Store) → P s → P (due_for a s)
  due_for_steady a s k = due_for_firm P (firm_of P c) a s k
