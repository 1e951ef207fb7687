-- Where a report is taken out that is closed, and that is not the last, memory has what it had.
use Rattle.std.proofs.Common.{◌≡◌, ℕ, ◌+◌, ◌<◌, List, [], ◌∷◌, ◌++◌, Bool, true, false, Option, Some, None, refl, sym, ◌∙◌, ap, subst, inl, inr, ⊎_elim, arith}
use Rattle.std.specs.Prelude.{◌&&◌, ◌||◌, not}
use Rattle.std.proofs.lemmas.Bool.{and_left, and_right, cases_eq, cond-false}
use Rattle.sms_base.specs.Among.{Among}
use Rattle.sms_rows.specs.index.Picked.{before_all, pick_of, picked}
use Rattle.sms_rows.specs.table.Table.{Rises, row_at, without}
use Rattle.sms_rows.proofs.table.Tables.{among_found, among_without, rises_without, without_behind, without_here}
use Rattle.sms_centre_rows.specs.declared.messages.message.MessageRow.{MessageRow}
use Rattle.sms_centre_rows.specs.messages.Messages.{message_at}
use Rattle.sms_centre_rows.specs.declared.reports.report.ReportRow.{ReportRow}
use Rattle.sms_centre_rows.specs.reports.Reports.{is_open_receipt, is_open_status, is_receipt, is_status, next_place, place_after, report_key, report_of, reports_of}
use Rattle.sms_centre_rows.proofs.reports.AllWaiting.{report_behind, report_found, report_here}
use Rattle.sms_centre_rows.specs.declared.waiting.revision.Revision.{Revision}
use Rattle.sms_centre_rows.specs.declared.waiting.revision.Revision.TheVariants.{Remove}
use Rattle.sms_centre_rows.specs.waiting.Revisions.{Revised}
use Rattle.sms_centre_reports.specs.open_reports.Entries.{account_in, is_named, is_open, open_entry, receipt_entry, report_entry, status_entry}
use Rattle.sms_centre_reports.specs.open_reports.OpenReports.{OpenReportsOf, Represents}
use Rattle.sms_centre_reports.specs.open_reports.OpenReportsDraft.{OpenReportsDraftOf, DraftRepresents, Stays, made_in}
use Rattle.sms_centre_spec.specs.forgetting.Forget.{remove_in}
use Rattle.sms_centre_reports.proofs.open_reports.Noting.{noted_gone}

-- ---- rows without it

one_place : (x y : ReportRow) (rs : List ReportRow) → Rises report_key rs → Among x rs → Among y rs → x.place ≡ y.place → x ≡ y
one_place x y rs keys a b e =
    let p : row_at report_key y.place rs ≡ Some x = subst (λ (n : ℕ). row_at report_key n rs ≡ Some x) e (among_found report_key x rs keys a) in
    let q : row_at report_key y.place rs ≡ Some y = among_found report_key y rs keys b in
    let same : Some x ≡ Some y = sym p ∙ q in cc

other_stays : (id n : ℕ) (rs : List ReportRow) → ((x : ReportRow) → Among x rs → x.place ≡ n → ¬ (x.id ≡ id)) → report_of id (without report_key n rs) ≡ report_of id rs
other_stays id n [] other = refl
other_stays id n (x ∷ xs) other = ⊎_elim
    (λ (e : x.place ≡ n).
    ap (λ (l : List ReportRow). report_of id l) (without_here report_key n x xs e) ∙ other_stays id n xs (λ y a. other y (inr a)) ∙ sym (report_behind id x xs (other x (inl refl) e)))
    (λ (e : x.place ≡ n → ⊥). ap (λ (l : List ReportRow). report_of id l) (without_behind report_key n x xs e) ∙ ⊎_elim
    (λ (q : x.id ≡ id). report_here id x (without report_key n xs) q ∙ sym (report_here id x xs q))
    (λ (q : x.id ≡ id → ⊥). report_behind id x (without report_key n xs) q ∙ other_stays id n xs (λ y a. other y (inr a)) ∙ sym (report_behind id x xs q))
    (cases_eq x.id id))
    (cases_eq x.place n)

own_goes : (id n : ℕ) (rs : List ReportRow) → ((x : ReportRow) → Among x rs → x.id ≡ id → x.place ≡ n) → report_of id (without report_key n rs) ≡ None
own_goes id n [] own = refl
own_goes id n (x ∷ xs) own = ⊎_elim
    (λ (e : x.place ≡ n). ap (λ (l : List ReportRow). report_of id l) (without_here report_key n x xs e) ∙ own_goes id n xs (λ y a. own y (inr a)))
    (λ (e : x.place ≡ n → ⊥).
    ap (λ (l : List ReportRow). report_of id l) (without_behind report_key n x xs e)
    ∙ report_behind id x (without report_key n xs) (λ q. e (own x (inl refl) q)) ∙ own_goes id n xs (λ y a. own y (inr a)))
    (cases_eq x.place n)

picked_same : {B : Type 0} (pick : ReportRow → Option B) (n : ℕ) (rs : List ReportRow) → ((x : ReportRow) → Among x rs → x.place ≡ n → pick x ≡ None) → picked pick (without report_key n rs) ≡ picked pick rs
picked_same pick n [] none = refl
picked_same {B = B} pick n (x ∷ xs) none =
    let rest : picked pick (without report_key n xs) ≡ picked pick xs = picked_same pick n xs (λ y a. none y (inr a)) in
    ⊎_elim
    (λ (e : x.place ≡ n).
    ap (λ (l : List ReportRow). picked pick l) (without_here report_key n x xs e) ∙ rest ∙ sym (ap (λ (o : Option B). before_all o (picked pick xs)) (none x (inl refl) e)))
    (λ (e : x.place ≡ n → ⊥). ap (λ (l : List ReportRow). picked pick l) (without_behind report_key n x xs e) ∙ ap (λ (l : List B). before_all (pick x) l) rest)
    (cases_eq x.place n)

next_same : (k n : ℕ) (rs : List ReportRow) → ((x : ReportRow) → Among x rs → x.place ≡ n → x.place + 1 < place_after k rs) → place_after k (without report_key n rs) ≡ place_after k rs
next_same k n [] low = refl
next_same k n (x ∷ []) low = ⊎_elim
    (λ (e : x.place ≡ n). absurd (let l : x.place + 1 < x.place + 1 = low x (inl refl) e in omega (arith, l)))
    (λ (e : x.place ≡ n → ⊥). ap (λ (l : List ReportRow). place_after k l) (without_behind report_key n x [] e))
    (cases_eq x.place n)
next_same k n (x ∷ y ∷ ys) low = ⊎_elim
    (λ (e : x.place ≡ n). ap (λ (l : List ReportRow). place_after k l) (without_here report_key n x (y ∷ ys) e) ∙ next_same k n (y ∷ ys) (λ z a. low z (inr a)))
    (λ (e : x.place ≡ n → ⊥).
    ap (λ (l : List ReportRow). place_after k l) (without_behind report_key n x (y ∷ ys) e) ∙ next_same (x.place + 1) n (y ∷ ys) (λ z a. low z (inr a)))
    (cases_eq x.place n)

-- ---- nothing is kept of a closed report

closed_receipt : (r : ReportRow) → r.progress.is_done ≡ true → is_open_receipt r ≡ false
closed_receipt r e = and_right (is_receipt r.kind) (not r.progress.is_done) (ap not e)

closed_status : (r : ReportRow) → r.progress.is_done ≡ true → is_open_status r ≡ false
closed_status r e = and_right (is_status r.kind) (not r.progress.is_done) (ap not e)

no_entry : (r : ReportRow) → r.progress.is_done ≡ true → open_entry r ≡ None
no_entry r e =
    cond-false (is_open r) (Some (report_entry r)) None
    (ap (λ (b : Bool). b || is_open_status r) (closed_receipt r e) ∙ closed_status r e)

no_status_entry : (r : ReportRow) → r.progress.is_done ≡ true → status_entry r ≡ None
no_status_entry r e = cond-false (is_open_status r) _ None (closed_status r e)

no_receipt_entry : (name : List ℕ) (ms : List MessageRow) (r : ReportRow) → r.progress.is_done ≡ true → receipt_entry name ms r ≡ None
no_receipt_entry name ms r e =
    cond-false (is_open_receipt r && is_named name (account_in (message_at r.id ms))) _ None
    (and_left (is_open_receipt r) (is_named name (account_in (message_at r.id ms))) (closed_receipt r e))

-- ---- what memory has

module _ (ms : List MessageRow) (r : ReportRow) (rows : List ReportRow) (there : report_of r.id rows ≡ Some r) (closed : r.progress.is_done ≡ true) (low : r.place + 1 < next_place rows) where
  -- a row of its place is the report
  is_it : Rises report_key rows → (x : ReportRow) → Among x rows → x.place ≡ r.place → x ≡ r
  is_it keys x a e =
      let f = report_found r.id r rows there in
      one_place x r rows keys a f.0 e

  still_current : (current : OpenReportsOf) → Represents ms current rows → Represents ms current (without report_key r.place rows)
  still_current current h =
      let f = report_found r.id r rows there in
      let same = is_it h.keys in
      record {
        keys = rises_without report_key r.place rows h.keys;
        alone = λ x y a b e. h.alone x y (among_without report_key x r.place rows a).0 (among_without report_key y r.place rows b).0 e;
        by_message = λ id. h.by_message id ∙ ⊎_elim
            (λ (e : r.id ≡ id).
            ap (λ (o : Option ReportRow). pick_of open_entry o) (ap (λ (n : ℕ). report_of n rows) (sym e) ∙ there) ∙ no_entry r closed
            ∙ sym (ap (λ (o : Option ReportRow). pick_of open_entry o) (own_goes id r.place rows (λ x a q. ap (λ (y : ReportRow). y.place) (h.alone x r a f.0 (q ∙ sym e))))))
            (λ (e : r.id ≡ id → ⊥).
            ap (λ (o : Option ReportRow). pick_of open_entry o) (sym (other_stays id r.place rows (λ x a q g. e (ap (λ (y : ReportRow). y.id) (sym (same x a q)) ∙ g)))))
            (cases_eq r.id id);
        statuses = h.statuses ∙ sym (picked_same status_entry r.place rows (λ x a q. ap (λ (y : ReportRow). status_entry y) (same x a q) ∙ no_status_entry r closed));
        receipts = λ name.
            h.receipts name ∙ sym (picked_same (receipt_entry name ms) r.place rows (λ x a q. ap (λ (y : ReportRow). receipt_entry name ms y) (same x a q) ∙ no_receipt_entry name ms r closed));
        next = h.next ∙ sym (next_same 1 r.place rows (λ x a q. subst (λ (n : ℕ). n + 1 < next_place rows) (sym q) low));
      }

  still_stays : (current : OpenReportsOf) (news : List (Revision ReportRow)) → Represents ms current rows → made_in r.id news ≡ None → ((id : ℕ) → Stays (made_in id news) (report_of id rows))
      → (id : ℕ) → Stays (made_in id news) (report_of id (without report_key r.place rows))
  still_stays current news h none stay id =
      let same = is_it h.keys in
      ⊎_elim
      (λ (e : r.id ≡ id). subst (λ (o : Option ReportRow). Stays o (report_of id (without report_key r.place rows))) (sym (ap (λ (n : ℕ). made_in n news) (sym e) ∙ none)) tt)
      (λ (e : r.id ≡ id → ⊥).
      subst (λ (o : Option ReportRow). Stays (made_in id news) o) (sym (other_stays id r.place rows (λ x a q g. e (ap (λ (y : ReportRow). y.id) (sym (same x a q)) ∙ g)))) (stay id))
      (cases_eq r.id id)

pub report_removed : (ms : List MessageRow) (p after : OpenReportsDraftOf) (t : Revised ReportRow) (r : ReportRow) (n : ℕ) → n ≡ r.place
    → after ≡ record { current = p.current; changes = p.changes ++ Remove n ∷ []; made = p.made } → DraftRepresents ms p t
    → report_of r.id (reports_of t) ≡ Some r → r.progress.is_done ≡ true → r.place + 1 < next_place (reports_of t) → made_in r.id t.news ≡ None
    → DraftRepresents ms after (remove_in r.place t)
report_removed ms p after t r n e is tells there closed low none =
    subst (λ (d : OpenReportsDraftOf). DraftRepresents ms d (remove_in r.place t)) (sym (is ∙ ap (λ (k : ℕ). record { current = p.current; changes = p.changes ++ Remove k ∷ []; made = p.made }) e)) (record {
      current = still_current ms r (reports_of t) there closed low p.current tells.current;
      changes = ap (λ (cs : List (Revision ReportRow)). cs ++ Remove r.place ∷ []) tells.changes;
      noted = noted_gone p.made p.changes t.news r.place tells.noted;
      stay = still_stays ms r (reports_of t) there closed low p.current t.news tells.current none tells.stay;
    })
