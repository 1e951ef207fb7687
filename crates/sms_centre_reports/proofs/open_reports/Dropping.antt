-- Status reports are dropped as what is kept tells them.
use Rattle.std.proofs.Common.{◌≡◌, ℕ, ◌+◌, ◌<◌, ◌≤◌, List, [], ◌∷◌, Bool, true, false, Option, Some, None, refl, sym, ◌∙◌, ap, subst, inl, inr, ⊎_elim, arith}
use Rattle.std.specs.Prelude.{nat_le, if◌then◌else◌}
use Rattle.std.proofs.lemmas.Bool.{and_from, and_parts, cases_Bool, cond-true, cond-false, le-leb, leb-true}
use Rattle.std.proofs.lemmas.Option.{same_Some}
use Rattle.sms_base.specs.Among.{Among}
use Rattle.sms_rows.specs.index.First.{first_such, is_past_from}
use Rattle.sms_rows.proofs.index.Picking.{picked_rises}
use Rattle.sms_rows.specs.table.Table.{AllAbove, Rises, rows_from}
use Rattle.sms_centre_rows.specs.declared.messages.message.MessageRow.{MessageRow}
use Rattle.sms_centre_rows.specs.declared.reports.report.ReportRow.{ReportRow}
use Rattle.sms_centre_rows.specs.reports.Reports.{amend_report, is_open_status, report_key}
use Rattle.sms_centre_reports.specs.declared.open_reports.entry.StatusEntry.{StatusEntry}
use Rattle.sms_centre_reports.specs.open_reports.Dropping.{drop_old, is_old}
use Rattle.sms_centre_reports.specs.open_reports.Entries.{status_entry, status_key, status_limit, status_until}
use Rattle.sms_centre_reports.specs.open_reports.OpenReports.{OpenReportsOf, Represents}
use Rattle.sms_centre_reports.proofs.open_reports.Amended.{amend_each, amends_end, amends_on}
use Rattle.sms_centre_reports.proofs.open_reports.Keeping.{kept_where, status_place}
use Rattle.sms_centre_reports.proofs.open_reports.Serving.{among_preserved, preserved_among}
use Rattle.sms_centre_rows.specs.declared.waiting.progress.Progress.{Progress}
use Rattle.sms_centre_rows.specs.waiting.Revisions.{Revised}
use Rattle.sms_centre_rows.specs.waiting.Trying.{finished, later}

-- ---- the walk

abbrev closed : ReportRow → Progress
closed r = finished r.progress

walk_is : (moment : ℕ) (rs : List ReportRow) (t : Revised ReportRow) → drop_old moment rs t ≡ amend_each (is_old moment) closed rs t
walk_is moment [] t = refl
walk_is moment (r ∷ rs) t = walk_is moment rs (if is_old moment r then amend_report r (finished r.progress) t else t)

-- ---- the first of the entries that passes

above_entry : (n : ℕ) (e : StatusEntry) (es : List StatusEntry) → AllAbove status_key n es → Among e es → n < e.place
above_entry n e [] h m = elim m [ ]
above_entry n e (x ∷ es) h m = ⊎_elim
    (λ (q : e ≡ x). subst (λ (y : StatusEntry). n < y.place) (sym q) h.0)
    (λ (k : Among e es). above_entry n e es h.1 k)
    m

module _ (test : StatusEntry → Bool) where
  reaches : (e : StatusEntry) (es : List StatusEntry) → Rises status_key es → Among e es → test e ≡ true → (f : StatusEntry) × ((first_such test es ≡ Some f) × (f.place ≤ e.place))
  reaches e [] h m t = elim m [ ]
  reaches e (x ∷ es) h m t = ⊎_elim
      (λ (p : test x ≡ true). (
        x,
        (
          cond-true (test x) (Some x) (first_such test es) p,
          ⊎_elim
              (λ (q : e ≡ x). subst (λ (y : StatusEntry). x.place ≤ y.place) (sym q) (omega arith))
              (λ (k : Among e es). let l = above_entry x.place e es h.0 k in omega (arith, l))
              m,
        ),
      ))
      (λ (p : test x ≡ false). ⊎_elim
      (λ (q : e ≡ x). let bad : true ≡ false = sym t ∙ ap test q ∙ p in absurd cc)
      (λ (k : Among e es). let f = reaches e es h.1 k t in (f.0, (cond-false (test x) (Some x) (first_such test es) p ∙ f.1.0, f.1.1)))
      m)
      (cases_Bool (test x))

  found : (e : StatusEntry) (es : List StatusEntry) → first_such test es ≡ Some e → Among e es × (test e ≡ true)
  found e [] q = absurd cc
  found e (x ∷ es) q = ⊎_elim
      (λ (p : test x ≡ true). let same : x ≡ e = same_Some x e (sym (cond-true (test x) (Some x) (first_such test es) p) ∙ q) in (inl (sym same), subst (λ (y : StatusEntry). test y ≡ true) same p))
      (λ (p : test x ≡ false). let f = found e es (sym (cond-false (test x) (Some x) (first_such test es) p) ∙ q) in (inr f.0, f.1))
      (cases_Bool (test x))

-- ---- what is kept tells the old ones

abbrev preserved_of : ReportRow → StatusEntry
preserved_of r = record { place = r.place; id = r.id; until = later r.made status_limit }

module _ (first moment : ℕ) (ms : List MessageRow) (current : OpenReportsOf) (rows : List ReportRow) (represents : Represents ms current rows) where
  statuses_rise : Rises status_key current.statuses
  statuses_rise = subst (λ (es : List StatusEntry). Rises status_key es) (sym represents.statuses) (picked_rises report_key status_key status_entry status_place rows represents.keys)

  old_preserved : (r : ReportRow) → Among r rows → first ≤ r.place → is_old moment r ≡ true → (f : StatusEntry) × ((first_such (is_past_from status_key status_until first moment) current.statuses ≡ Some f) × (f.place ≤ r.place))
  old_preserved r m l e =
      let parts = and_parts (is_open_status r) (nat_le (later r.made status_limit) moment) e in
      let entry : status_entry r ≡ Some (preserved_of r) = cond-true (is_open_status r) (Some (preserved_of r)) None parts.0 in
      let there : Among (preserved_of r) current.statuses = subst (λ (es : List StatusEntry). Among (preserved_of r) es) (sym represents.statuses) (preserved_among status_entry r (preserved_of r) rows m entry) in
      let passing : is_past_from status_key status_until first moment (preserved_of r) ≡ true = cond-true (nat_le first r.place) (nat_le (later r.made status_limit) moment) false (le-leb first r.place l) ∙ parts.1 in
      reaches (is_past_from status_key status_until first moment) (preserved_of r) current.statuses statuses_rise there passing

  none_old : (o : Option StatusEntry) → first_such (is_past_from status_key status_until first moment) current.statuses ≡ o → (x : ReportRow) → Among x rows → first ≤ x.place → ((f : StatusEntry) → o ≡ Some f → x.place < f.place) → is_old moment x ≡ false
  none_old o e x m l before = ⊎_elim
      (λ (t : is_old moment x ≡ true).
      let f = old_preserved x m l t in
      let lower = before f.0 (sym e ∙ f.1.0) in
      absurd (omega (arith, lower, f.1.1)))
      (λ (t : is_old moment x ≡ false). t)
      (cases_Bool (is_old moment x))

  pub none_dropped : (t : Revised ReportRow) → first_such (is_past_from status_key status_until first moment) current.statuses ≡ None → drop_old moment (rows_from report_key first rows) t ≡ t
  none_dropped t e = walk_is moment (rows_from report_key first rows) t ∙ amends_end (is_old moment) closed first rows t represents.keys (λ r m l. none_old None e r m l (λ f q. absurd cc))

  past_parts : (e : StatusEntry) → is_past_from status_key status_until first moment e ≡ true → (first ≤ e.place) × (nat_le e.until moment ≡ true)
  past_parts e t = ⊎_elim
      (λ (l : nat_le first e.place ≡ true). (leb-true first e.place l, sym (cond-true (nat_le first e.place) (nat_le e.until moment) false l) ∙ t))
      (λ (l : nat_le first e.place ≡ false). let bad : false ≡ true = sym (cond-false (nat_le first e.place) (nat_le e.until moment) false l) ∙ t in absurd cc)
      (cases_Bool (nat_le first e.place))

  pub one_dropped : (t : Revised ReportRow) (e : StatusEntry) → first_such (is_past_from status_key status_until first moment) current.statuses ≡ Some e
      → (r : ReportRow) × ((Among r rows × (status_entry r ≡ Some e)) × (drop_old moment (rows_from report_key first rows) t ≡ drop_old moment (rows_from report_key (e.place + 1) rows) (amend_report r (finished r.progress) t)))
  one_dropped t e q =
      let f = found (is_past_from status_key status_until first moment) e current.statuses q in
      let row = among_preserved status_entry e rows (subst (λ (es : List StatusEntry). Among e es) represents.statuses f.0) in
      let r : ReportRow = row.0 in
      let so = kept_where (is_open_status r) (preserved_of r) e row.1.1 in
      let place : r.place ≡ e.place = ap (λ (x : StatusEntry). x.place) so.1 in
      let past = past_parts e f.1 in
      let old : is_old moment r ≡ true = and_from (is_open_status r) (nat_le (later r.made status_limit) moment) so.0 (ap (λ (x : StatusEntry). nat_le x.until moment) so.1 ∙ past.1) in (
        r,
        (
          (row.1.0, row.1.1),
          walk_is moment (rows_from report_key first rows) t
              ∙ amends_on (is_old moment) closed first rows r t represents.keys row.1.0 (subst (λ (n : ℕ). first ≤ n) (sym place) past.0)
              (λ x m l before. none_old (Some e) q x m l (λ g h. let same : e ≡ g = same_Some e g h in subst (λ (y : StatusEntry). x.place < y.place) same (omega (arith, before, place)))) old
              ∙ sym (walk_is moment (rows_from report_key (r.place + 1) rows) (amend_report r (finished r.progress) t))
              ∙ ap (λ (n : ℕ). drop_old moment (rows_from report_key (n + 1) rows) (amend_report r (finished r.progress) t)) place,
        ),
      )
