-- Receipts that are put off come due as what is kept tells them.
use Rattle.std.proofs.Common.{◌≡◌, ℕ, ◌+◌, ◌<◌, ◌≤◌, List, [], ◌∷◌, Bool, true, false, Option, Some, None, refl, sym, ◌∙◌, ap, subst, ⊎_elim, arith}
use Rattle.std.specs.Prelude.{◌&&◌, nat_le, nat_lt, if◌then◌else◌}
use Rattle.std.proofs.lemmas.Bool.{and_from, and_parts, cases_Bool, cond-true, cond-false, le-leb, leb-true}
use Rattle.std.proofs.lemmas.Slice.Eq.{bytes_eq-Decides}
use Rattle.std.proofs.lemmas.Option.{same_Some}
use Rattle.sms_base.proofs.Bools.{and_false}
use Rattle.sms_base.specs.Among.{Among}
use Rattle.sms_rows.specs.index.First.{first_such, is_ahead_from}
use Rattle.sms_rows.proofs.index.Picking.{picked_rises}
use Rattle.sms_rows.specs.table.Table.{Rises, rows_from}
use Rattle.sms_centre_rows.specs.declared.messages.message.MessageRow.{MessageRow}
use Rattle.sms_base.specs.declared.originator.Originator.{Originator}
use Rattle.sms_base.specs.declared.originator.Originator.TheVariants.{Application, Handset}
use Rattle.sms_centre_rows.specs.messages.Messages.{message_at}
use Rattle.sms_centre_rows.specs.declared.reports.report.ReportRow.{ReportRow}
use Rattle.sms_centre_rows.specs.reports.Receipts.{is_account, is_put_off, receipts_due}
use Rattle.sms_centre_rows.specs.reports.Reports.{amend_report, is_open_receipt, report_key, report_of, reports_of}
use Rattle.sms_centre_reports.specs.declared.open_reports.entry.ReceiptEntry.{ReceiptEntry}
use Rattle.sms_centre_reports.specs.open_reports.Entries.{account_in, account_of, is_named, receipt_due, receipt_entry, receipt_key}
use Rattle.sms_centre_reports.specs.open_reports.OpenReports.{OpenReportsOf, Represents, receipts_at}
use Rattle.sms_centre_reports.specs.open_reports.OpenReportsDraft.{OpenReportsDraftOf, DraftRepresents}
use Rattle.sms_centre_reports.proofs.open_reports.Amended.{amend_each, amends_end, amends_on, from_amended, from_first}
use Rattle.sms_centre_reports.proofs.open_reports.Keeping.{kept_where, receipt_place}
use Rattle.sms_centre_reports.proofs.open_reports.Serving.{among_preserved, first_found, first_reaches, preserved_among, preserved_of}
use Rattle.sms_centre_rows.specs.declared.waiting.progress.Progress.{Progress}
use Rattle.sms_centre_rows.specs.waiting.Revisions.{Revised}
use Rattle.sms_centre_rows.specs.waiting.Trying.{due_at}
use Rattle.sms_centre_spec.proofs.bodies.Bodies.{alone_found}

-- ---- what is put off

and_both : (a b c : Bool) → (a && (b && c)) ≡ ((a && b) && c)
and_both true b c = refl
and_both false b c = refl

named_same : (name : List ℕ) (o : Originator) → is_account name o ≡ is_named name (account_of o)
named_same name (Application a) = refl
named_same name (Handset n) = refl

put_off_is : (moment : ℕ) (name : List ℕ) (r : ReportRow) (o : Option MessageRow) → is_put_off moment name r o ≡ ((is_open_receipt r && is_named name (account_in o)) && nat_lt moment r.progress.due)
put_off_is moment name r None = sym (ap (λ (b : Bool). b && nat_lt moment r.progress.due) (and_false (is_open_receipt r)))
put_off_is moment name r (Some m) =
    and_both (is_open_receipt r) (is_account name m.originator) (nat_lt moment r.progress.due)
    ∙ ap (λ (b : Bool). (is_open_receipt r && b) && nat_lt moment r.progress.due) (named_same name m.originator)

named_own : (name : List ℕ) (o : Option (List ℕ)) → is_named name o ≡ true → o ≡ Some name
named_own name None e = absurd cc
named_own name (Some account) e = ap (λ (a : List ℕ). Some a) ((bytes_eq-Decides account name).0 e)

-- a receipt that comes due, and all behind it
pub record FallsDue (first moment : ℕ) (name : List ℕ) (ms : List MessageRow) (rows : List ReportRow) (t : Revised ReportRow) (e : ReceiptEntry) (r : ReportRow) : Type 0 where
  pub there : report_of r.id rows ≡ Some r
  pub open_still : is_open_receipt r ≡ true
  pub account : account_in (message_at r.id ms) ≡ Some name
  pub message : r.id ≡ e.id
  pub place : r.place ≡ e.place
  pub behind : first ≤ e.place
  pub walk : receipts_due moment name ms (rows_from report_key first rows) t ≡ receipts_due moment name ms (rows_from report_key (r.place + 1) rows) (amend_report r (due_at moment r.progress) t)

module _ (moment : ℕ) (name : List ℕ) (ms : List MessageRow) where
  abbrev test : ReportRow → Bool
  test r = is_put_off moment name r (message_at r.id ms)

  abbrev reach : ReportRow → Progress
  reach r = due_at moment r.progress

  walk_is : (rs : List ReportRow) (t : Revised ReportRow) → receipts_due moment name ms rs t ≡ amend_each test reach rs t
  walk_is [] t = refl
  walk_is (r ∷ rs) t = walk_is rs (if test r then amend_report r (reach r) t else t)

  ahead_so : (first : ℕ) (e : ReceiptEntry) → is_ahead_from receipt_key receipt_due first moment e ≡ true → (first ≤ e.place) × (nat_lt moment e.due ≡ true)
  ahead_so first e t = ⊎_elim
      (λ (l : nat_le first e.place ≡ true). (leb-true first e.place l, sym (cond-true (nat_le first e.place) (nat_lt moment e.due) false l) ∙ t))
      (λ (l : nat_le first e.place ≡ false). let bad : false ≡ true = sym (cond-false (nat_le first e.place) (nat_lt moment e.due) false l) ∙ t in absurd cc)
      (cases_Bool (nat_le first e.place))

  module _ (first : ℕ) (current : OpenReportsOf) (rows : List ReportRow) (represents : Represents ms current rows) where
    receipts_rise : Rises receipt_key (receipts_at name current.accounts)
    receipts_rise = subst (λ (es : List ReceiptEntry). Rises receipt_key es) (sym (represents.receipts name)) (picked_rises report_key receipt_key (receipt_entry name ms) (receipt_place name ms) rows represents.keys)

    due_preserved : (r : ReportRow) → Among r rows → first ≤ r.place → test r ≡ true
        → (f : ReceiptEntry) × ((first_such (is_ahead_from receipt_key receipt_due first moment) (receipts_at name current.accounts) ≡ Some f) × (f.place ≤ r.place))
    due_preserved r m l e =
        let parts = and_parts (is_open_receipt r && is_named name (account_in (message_at r.id ms))) (nat_lt moment r.progress.due) (sym (put_off_is moment name r (message_at r.id ms)) ∙ e) in
        let entry : receipt_entry name ms r ≡ Some (preserved_of r) = cond-true (is_open_receipt r && is_named name (account_in (message_at r.id ms))) (Some (preserved_of r)) None parts.0 in
        let there : Among (preserved_of r) (receipts_at name current.accounts) =
        subst (λ (es : List ReceiptEntry). Among (preserved_of r) es) (sym (represents.receipts name)) (preserved_among (receipt_entry name ms) r (preserved_of r) rows m entry) in
        let passing : is_ahead_from receipt_key receipt_due first moment (preserved_of r) ≡ true = cond-true (nat_le first r.place) (nat_lt moment r.progress.due) false (le-leb first r.place l) ∙ parts.1 in
        first_reaches (is_ahead_from receipt_key receipt_due first moment) (preserved_of r) (receipts_at name current.accounts) receipts_rise there passing

    none_due : (o : Option ReceiptEntry) → first_such (is_ahead_from receipt_key receipt_due first moment) (receipts_at name current.accounts) ≡ o
        → (x : ReportRow) → Among x rows → first ≤ x.place → ((f : ReceiptEntry) → o ≡ Some f → x.place < f.place) → test x ≡ false
    none_due o e x m l before = ⊎_elim
        (λ (t : test x ≡ true).
        let f = due_preserved x m l t in
        let lower = before f.0 (sym e ∙ f.1.0) in
        absurd (omega (arith, lower, f.1.1)))
        (λ (t : test x ≡ false). t)
        (cases_Bool (test x))

    pub none_falls_due : (t : Revised ReportRow) → first_such (is_ahead_from receipt_key receipt_due first moment) (receipts_at name current.accounts) ≡ None → receipts_due moment name ms (rows_from report_key first rows) t ≡ t
    none_falls_due t e = walk_is (rows_from report_key first rows) t ∙ amends_end test reach first rows t represents.keys (λ r m l. none_due None e r m l (λ f q. absurd cc))

    pub one_falls_due : (t : Revised ReportRow) (e : ReceiptEntry) → first_such (is_ahead_from receipt_key receipt_due first moment) (receipts_at name current.accounts) ≡ Some e
        → (r : ReportRow) × FallsDue first moment name ms rows t e r
    one_falls_due t e q =
        let f = first_found (is_ahead_from receipt_key receipt_due first moment) e (receipts_at name current.accounts) q in
        let row = among_preserved (receipt_entry name ms) e rows (subst (λ (es : List ReceiptEntry). Among e es) (represents.receipts name) f.0) in
        let r : ReportRow = row.0 in
        let so = kept_where (is_open_receipt r && is_named name (account_in (message_at r.id ms))) (preserved_of r) e row.1.1 in
        let own = and_parts (is_open_receipt r) (is_named name (account_in (message_at r.id ms))) so.0 in
        let place : r.place ≡ e.place = ap (λ (x : ReceiptEntry). x.place) so.1 in
        let ahead = ahead_so first e f.1 in
        let due : test r ≡ true = put_off_is moment name r (message_at r.id ms)
        ∙ and_from (is_open_receipt r && is_named name (account_in (message_at r.id ms))) (nat_lt moment r.progress.due) so.0 (ap (λ (x : ReceiptEntry). nat_lt moment x.due) so.1 ∙ ahead.1) in (
          r,
          record {
            there = alone_found r rows represents.alone row.1.0;
            open_still = own.0;
            account = named_own name (account_in (message_at r.id ms)) own.1;
            message = ap (λ (x : ReceiptEntry). x.id) so.1;
            place = place;
            behind = ahead.0;
            walk = walk_is (rows_from report_key first rows) t
                ∙ amends_on test reach first rows r t represents.keys row.1.0 (subst (λ (n : ℕ). first ≤ n) (sym place) ahead.0)
                (λ x m l before. none_due (Some e) q x m l (λ g h. let same : e ≡ g = same_Some e g h in subst (λ (y : ReceiptEntry). x.place < y.place) same (omega (arith, before, place)))) due
                ∙ sym (walk_is (rows_from report_key (r.place + 1) rows) (amend_report r (due_at moment r.progress) t));
          },
        )

  -- ---- one after another

  -- what came due so far, and what is still to come due from a place on, is all that comes due
  pub record DueSoFar (first : ℕ) (t u : Revised ReportRow) : Type 0 where
    pub left : receipts_due moment name ms (rows_from report_key first (reports_of u)) u ≡ receipts_due moment name ms (reports_of t) t

  abbrev pub IsOnTheWay : ℕ → OpenReportsDraftOf → Revised ReportRow → Type 0
  IsOnTheWay first p t = (u : Revised ReportRow) × (DraftRepresents ms p u × DueSoFar first t u)

  pub way_begins : (p : OpenReportsDraftOf) (t : Revised ReportRow) → DraftRepresents ms p t → IsOnTheWay 0 p t
  way_begins p t tells = (t, (tells, record { left = ap (λ (rs : List ReportRow). receipts_due moment name ms rs t) (from_first (reports_of t)) }))

  pub way_ends : (first : ℕ) (p : OpenReportsDraftOf) (t : Revised ReportRow) → IsOnTheWay first p t → first_such (is_ahead_from receipt_key receipt_due first moment) (receipts_at name p.current.accounts) ≡ None
      → DraftRepresents ms p (receipts_due moment name ms (reports_of t) t)
  way_ends first p t way e = subst (λ (v : Revised ReportRow). DraftRepresents ms p v) (sym (none_falls_due first p.current (reports_of way.0) way.1.0.current way.0 e) ∙ way.1.1.left) way.1.0

  pub way_on : (first : ℕ) (p q : OpenReportsDraftOf) (t : Revised ReportRow) (e : ReceiptEntry) → IsOnTheWay first p t → first_such (is_ahead_from receipt_key receipt_due first moment) (receipts_at name p.current.accounts) ≡ Some e
      → ((u : Revised ReportRow) (r : ReportRow) → DraftRepresents ms p u → report_of e.id (reports_of u) ≡ Some r → is_open_receipt r ≡ true → account_in (message_at e.id ms) ≡ Some name → DraftRepresents ms q (amend_report r (due_at moment r.progress) u))
      → IsOnTheWay (e.place + 1) q t
  way_on first p q t e way is moves =
      let u : Revised ReportRow = way.0 in
      let one = one_falls_due first p.current (reports_of u) way.1.0.current u e is in
      let r : ReportRow = one.0 in
      let due = one.1 in
      let after : Revised ReportRow = amend_report r (due_at moment r.progress) u in
      let from : rows_from report_key (r.place + 1) (reports_of after) ≡ rows_from report_key (r.place + 1) (reports_of u) = from_amended r.place (due_at moment r.progress) (reports_of u) way.1.0.current.keys in (
        after,
        (
          moves u r way.1.0 (subst (λ (n : ℕ). report_of n (reports_of u) ≡ Some r) due.message due.there) due.open_still (subst (λ (n : ℕ). account_in (message_at n ms) ≡ Some name) due.message due.account),
          record {
            left = ap (λ (n : ℕ). receipts_due moment name ms (rows_from report_key (n + 1) (reports_of after)) after) (sym due.place)
                ∙ ap (λ (rs : List ReportRow). receipts_due moment name ms rs after) from ∙ sym due.walk ∙ way.1.1.left;
          },
        ),
      )

  -- what comes due next stands no earlier than the place
  pub behind_falls_due : (first : ℕ) (e : ReceiptEntry) (es : List ReceiptEntry) → first_such (is_ahead_from receipt_key receipt_due first moment) es ≡ Some e → first ≤ e.place
  behind_falls_due first e es q = (ahead_so first e (first_found (is_ahead_from receipt_key receipt_due first moment) e es q).1).0
