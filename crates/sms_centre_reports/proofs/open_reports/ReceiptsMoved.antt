-- Receipts that are answered or put off, one after another.
use Rattle.std.proofs.Common.{◌≡◌, ℕ, List, [], ◌∷◌, Bool, true, false, Option, Some, None, refl, sym, ◌∙◌, ap, subst, inl, inr, ⊎_elim}
use Rattle.std.specs.Prelude.{◌||◌, ◌==◌, not, if◌then◌else◌}
use Rattle.std.proofs.lemmas.Bool.{and_from, and_parts, cases_Bool, cond-true, cond-false}
use Rattle.std.proofs.lemmas.Option.{same_Some}
use Rattle.sms_base.specs.Among.{Among}
use Rattle.sms_rows.specs.index.Picked.{pick_of}
use Rattle.sms_centre_rows.specs.declared.messages.message.MessageRow.{MessageRow}
use Rattle.sms_centre_rows.specs.messages.Messages.{message_at}
use Rattle.sms_centre_rows.specs.declared.reports.report.ReportRow.{ReportRow}
use Rattle.sms_centre_rows.specs.reports.Receipts.{all_tried, receipt_ended, receipt_tried}
use Rattle.sms_centre_rows.specs.reports.Reports.{amend_report, is_open_receipt, is_open_status, is_receipt, report_key, report_of, report_reaching, reports_of}
use Rattle.sms_centre_rows.proofs.reports.AllWaiting.{report_found}
use Rattle.sms_centre_rows.proofs.reports.ReportRows.{far_of, so_far}
use Rattle.sms_centre_reports.specs.open_reports.Awaited.{IsAwaited}
use Rattle.sms_centre_reports.specs.declared.open_reports.entry.ReportEntry.{ReportEntry}
use Rattle.sms_centre_reports.specs.declared.open_reports.receipt_move.ReceiptMove.{ReceiptMove}
use Rattle.sms_centre_reports.specs.declared.open_reports.receipt_move.ReceiptMove.TheVariants.{Accepted, PutOff}
use Rattle.sms_centre_reports.specs.open_reports.Entries.{account_in, is_open, open_entry, report_entry}
use Rattle.sms_centre_reports.specs.open_reports.OpenReportsDraft.{OpenReportsDraftOf, DraftRepresents}
use Rattle.sms_centre_reports.specs.open_reports.ReceiptMoves.{moved}
use Rattle.sms_centre_rows.specs.declared.waiting.progress.Progress.{Progress}
use Rattle.sms_centre_rows.specs.waiting.Revisions.{Revised, amended}

-- ---- it is found

pub open_found : (id : ℕ) (r : ReportRow) (rows : List ReportRow) → report_of id rows ≡ Some r → is_open_receipt r ≡ true → pick_of open_entry (report_of id rows) ≡ Some (report_entry r)
open_found id r rows there is =
    ap (λ (o : Option ReportRow). pick_of open_entry o) there ∙ cond-true (is_open r) (Some (report_entry r)) None (ap (λ (b : Bool). b || is_open_status r) is)

pub never_missed : (id : ℕ) (r : ReportRow) (rows : List ReportRow) → None ≡ pick_of open_entry (report_of id rows) → report_of id rows ≡ Some r → is_open_receipt r ≡ true → ⊥
never_missed id r rows e there is = let bad : None ≡ Some (report_entry r) = e ∙ open_found id r rows there is in absurd cc

pub moves_so : (ms : List MessageRow) (q : OpenReportsDraftOf) (t : Revised ReportRow) (r : ReportRow) (becomes : ReceiptMove) (far : Progress) (entry : ReportEntry) (name : List ℕ) (id : ℕ)
    → far ≡ moved becomes entry.progress → Some entry ≡ pick_of open_entry (report_of id (reports_of t)) → report_of id (reports_of t) ≡ Some r → is_open_receipt r ≡ true → account_in (message_at id ms) ≡ Some name
    → ((s : ReportRow) → report_of s.id (reports_of t) ≡ Some s → entry ≡ report_entry s → is_receipt s.kind ≡ true → account_in (message_at s.id ms) ≡ Some name → DraftRepresents ms q (amend_report s far t))
    → DraftRepresents ms q (amend_report r (moved becomes r.progress) t)
moves_so ms q t r becomes far entry name id reaches found there is account moves =
    let same : entry ≡ report_entry r = same_Some entry (report_entry r) (found ∙ open_found id r (reports_of t) there is) in
    let own : r.id ≡ id = (report_found id r (reports_of t) there).1 in
    subst (λ (p : Progress). DraftRepresents ms q (amend_report r p t)) (reaches ∙ ap (λ (e : ReportEntry). moved becomes e.progress) same)
    (moves r (subst (λ (n : ℕ). report_of n (reports_of t) ≡ Some r) (sym own) there) same (and_parts (is_receipt r.kind) (not r.progress.is_done) is).0
    (subst (λ (n : ℕ). account_in (message_at n ms) ≡ Some name) (sym own) account))

-- ---- it ends

pub ends_so : (ms : List MessageRow) (q : OpenReportsDraftOf) (t : Revised ReportRow) (b : Bool) (now : ℕ) (name : List ℕ) (id : ℕ) (becomes : ReceiptMove) → ((p : Progress) → moved becomes p ≡ (if b then moved Accepted p else moved (PutOff now) p))
    → IsAwaited ms (reports_of t) name id
    → ((r : ReportRow) → report_of id (reports_of t) ≡ Some r → is_open_receipt r ≡ true → account_in (message_at id ms) ≡ Some name → DraftRepresents ms q (amend_report r (moved becomes r.progress) t))
    → DraftRepresents ms q (receipt_ended b now (report_of id (reports_of t)) t)
ends_so ms q t b now name id becomes is awaited moves =
    let r : ReportRow = awaited.report.0 in
    subst (λ (o : Option ReportRow). DraftRepresents ms q (receipt_ended b now o t)) (sym awaited.report.1.0)
    (subst (λ (p : Progress). DraftRepresents ms q (amend_report r p t)) (is r.progress) (moves r awaited.report.1.0 awaited.report.1.1 awaited.account_is))

-- ---- others are still awaited

opened : (r s : ReportRow) (q : Progress) (n : ℕ) → is_open_receipt r ≡ true → q.is_done ≡ false → is_open_receipt (so_far n q r) ≡ true
opened r s q n is undone =
    let kind = and_parts (is_receipt r.kind) (not r.progress.is_done) is in
    ⊎_elim
    (λ (t : (report_key r == n) ≡ true). ap (λ (x : ReportRow). is_open_receipt x) (cond-true (report_key r == n) (report_reaching q r) r t) ∙ and_from (is_receipt r.kind) (not q.is_done) kind.0 (ap (λ (b : Bool). not b) undone))
    (λ (t : (report_key r == n) ≡ false). ap (λ (x : ReportRow). is_open_receipt x) (cond-false (report_key r == n) (report_reaching q r) r t) ∙ is)
    (cases_Bool (report_key r == n))

pub still_awaited : (ms : List MessageRow) (rows : List ReportRow) (n : ℕ) (q : Progress) (name : List ℕ) (id : ℕ) → q.is_done ≡ false → IsAwaited ms rows name id → IsAwaited ms (amended report_key report_reaching n q rows) name id
still_awaited ms rows n q name id undone awaited =
    let r : ReportRow = awaited.report.0 in record {
      report = (so_far n q r, (far_of id n q rows r awaited.report.1.0, opened r r q n awaited.report.1.1 undone));
      account_is = awaited.account_is;
    }

pub awaited_behind : (ms : List MessageRow) (t : Revised ReportRow) (now : ℕ) (name other : List ℕ) (id n : ℕ) → IsAwaited ms (reports_of t) name n → IsAwaited ms (reports_of t) other id
    → IsAwaited ms (reports_of (receipt_ended false now (report_of n (reports_of t)) t)) other id
awaited_behind ms t now name other id n ended awaited =
    let r : ReportRow = ended.report.0 in
    let undone : r.progress.is_done ≡ false = not_so r.progress.is_done (and_parts (is_receipt r.kind) (not r.progress.is_done) ended.report.1.1).1 in
    subst (λ (o : Option ReportRow). IsAwaited ms (reports_of (receipt_ended false now o t)) other id) (sym ended.report.1.0)
    (still_awaited ms (reports_of t) (report_key r) (receipt_tried now r.progress) other id undone awaited)
  where
    not_so : (b : Bool) → not b ≡ true → b ≡ false
    not_so true e = absurd cc
    not_so false e = refl

-- ---- one after another

module _ (ms : List MessageRow) (now : ℕ) (name : List ℕ) where
  -- what was put off so far, and what is still to be put off, is all that is put off
  pub record Leaves (ids all : List ℕ) (t u : Revised ReportRow) : Type 0 where
    pub left : all_tried now ids u ≡ all_tried now all t
    pub awaited : (id : ℕ) → Among id ids → IsAwaited ms (reports_of u) name id

  abbrev pub IsPuttingOff : List ℕ → List ℕ → OpenReportsDraftOf → Revised ReportRow → Type 0
  IsPuttingOff ids all p t = (u : Revised ReportRow) × (DraftRepresents ms p u × Leaves ids all t u)

  pub puts_none : (all : List ℕ) (p : OpenReportsDraftOf) (t : Revised ReportRow) → DraftRepresents ms p t → ((id : ℕ) → Among id all → IsAwaited ms (reports_of t) name id) → IsPuttingOff all all p t
  puts_none all p t tells awaited = (t, (tells, record { left = refl; awaited = awaited }))

  pub puts_all : (all : List ℕ) (p : OpenReportsDraftOf) (t : Revised ReportRow) → IsPuttingOff [] all p t → DraftRepresents ms p (all_tried now all t)
  puts_all all p t way = subst (λ (v : Revised ReportRow). DraftRepresents ms p v) way.1.1.left way.1.0

  pub puts_one : (id : ℕ) (ids all : List ℕ) (p q : OpenReportsDraftOf) (t : Revised ReportRow) → IsPuttingOff (id ∷ ids) all p t
      → ((u : Revised ReportRow) → DraftRepresents ms p u → IsAwaited ms (reports_of u) name id → DraftRepresents ms q (receipt_ended false now (report_of id (reports_of u)) u)) → IsPuttingOff ids all q t
  puts_one id ids all p q t way ends =
      let u : Revised ReportRow = way.0 in
      let here = way.1.1.awaited id (inl refl) in (
        receipt_ended false now (report_of id (reports_of u)) u,
        (
          ends u way.1.0 here,
          record {
            left = way.1.1.left;
            awaited = λ n m. awaited_behind ms u now name name n id here (way.1.1.awaited n (inr m));
          },
        ),
      )
