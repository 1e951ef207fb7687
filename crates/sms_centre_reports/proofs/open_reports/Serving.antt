-- The next receipt that what is kept tells is the first that goes.
use Rattle.std.proofs.Common.{◌≡◌, ◌⊎◌, ℕ, ◌+◌, ◌≤◌, ◌<◌, List, [], ◌∷◌, Bool, true, false, Option, Some, None, refl, sym, ◌∙◌, ap, subst, inl, inr, ⊎_elim, length, eq-eqb, arith}
use Rattle.std.specs.Prelude.{◌&&◌, nat_le, nat_lt, not, if◌then◌else◌}
use Rattle.std.specs.Str.{bytes_eq}
use Rattle.std.proofs.lemmas.Bool.{and_from, and_parts, cases_Bool, cases_lt, cond-true, cond-false, eqb-true, le-leb, leb-true, not-true, not_from_false}
use Rattle.std.proofs.lemmas.Slice.Eq.{bytes_eq-Decides}
use Rattle.std.proofs.lemmas.Option.{same_Some}
use Rattle.sms_base.proofs.Bools.{and_false}
use Rattle.sms_base.specs.Among.{Among}
use Rattle.sms_rows.specs.index.First.{first_such, is_past_from}
use Rattle.sms_rows.specs.index.Picked.{before_all, picked}
use Rattle.sms_rows.proofs.index.Picking.{picked_rises}
use Rattle.sms_rows.specs.table.Table.{AllAbove, Rises, row_at, rows_from}
use Rattle.sms_rows.proofs.table.Tables.{among_found}
use Rattle.sms_centre_rows.specs.declared.messages.message.MessageRow.{MessageRow}
use Rattle.sms_base.specs.declared.originator.Originator.{Originator}
use Rattle.sms_base.specs.declared.originator.Originator.TheVariants.{Application, Handset}
use Rattle.sms_centre_rows.specs.messages.Messages.{message_at}
use Rattle.sms_centre_rows.specs.declared.reports.report.ReportRow.{ReportRow}
use Rattle.sms_centre_rows.specs.reports.Receipts.{Bindings, Session, is_account, is_unanswered, receives_for, send_all, send_in, session_for, session_key, waits, window}
use Rattle.sms_centre_rows.specs.reports.Reports.{is_open_receipt, report_key}
use Rattle.sms_centre_rows.proofs.reports.Serving.{fewest_found, fewest_none, fewest_same}
use Rattle.sms_centre_reports.specs.declared.open_reports.entry.ReceiptEntry.{ReceiptEntry}
use Rattle.sms_centre_reports.specs.open_reports.Entries.{account_in, account_of, is_named, receipt_due, receipt_entry, receipt_key}
use Rattle.sms_centre_reports.specs.open_reports.OpenReports.{OpenReportsOf, Represents, receipts_at}
use Rattle.sms_centre_reports.specs.open_reports.Serving.{Next, earlier, is_ready, is_session, next_among, next_from, next_in, receives_as, serving}
use Rattle.sms_centre_reports.specs.open_reports.DueReceipts.{sending_session, with_room}
use Rattle.sms_centre_reports.proofs.open_reports.Keeping.{kept_where, receipt_place}
use Rattle.sms_centre_reports.proofs.open_reports.Walking.{walk_ends, walk_on}

-- ---- lists

above_member : (n : ℕ) (e : ReceiptEntry) (es : List ReceiptEntry) → AllAbove receipt_key n es → Among e es → n < e.place
above_member n e [] h m = elim m [ ]
above_member n e (x ∷ es) h m = ⊎_elim
    (λ (q : e ≡ x). subst (λ (y : ReceiptEntry). n < y.place) (sym q) h.0)
    (λ (k : Among e es). above_member n e es h.1 k)
    m

module _ (test : ReceiptEntry → Bool) where
  pub first_reaches : (e : ReceiptEntry) (es : List ReceiptEntry) → Rises receipt_key es → Among e es → test e ≡ true → (f : ReceiptEntry) × ((first_such test es ≡ Some f) × (f.place ≤ e.place))
  first_reaches e [] h m t = elim m [ ]
  first_reaches e (x ∷ es) h m t = ⊎_elim
      (λ (p : test x ≡ true). (
        x,
        (
          cond-true (test x) (Some x) (first_such test es) p,
          ⊎_elim
              (λ (q : e ≡ x). subst (λ (y : ReceiptEntry). x.place ≤ y.place) (sym q) (omega arith))
              (λ (k : Among e es). let l = above_member x.place e es h.0 k in omega (arith, l))
              m,
        ),
      ))
      (λ (p : test x ≡ false). ⊎_elim
      (λ (q : e ≡ x). let bad : true ≡ false = sym t ∙ ap test q ∙ p in absurd cc)
      (λ (k : Among e es). let f = first_reaches e es h.1 k t in (f.0, (cond-false (test x) (Some x) (first_such test es) p ∙ f.1.0, f.1.1)))
      m)
      (cases_Bool (test x))

  pub first_found : (e : ReceiptEntry) (es : List ReceiptEntry) → first_such test es ≡ Some e → Among e es × (test e ≡ true)
  first_found e [] q = absurd cc
  first_found e (x ∷ es) q = ⊎_elim
      (λ (p : test x ≡ true). let same : x ≡ e = same_Some x e (sym (cond-true (test x) (Some x) (first_such test es) p) ∙ q) in (inl (sym same), subst (λ (y : ReceiptEntry). test y ≡ true) same p))
      (λ (p : test x ≡ false). let f = first_found e es (sym (cond-false (test x) (Some x) (first_such test es) p) ∙ q) in (inr f.0, f.1))
      (cases_Bool (test x))

-- ---- receipts that are due, but were sent already, are passed over

past_so : (first moment : ℕ) (e : ReceiptEntry) → is_past_from receipt_key receipt_due first moment e ≡ true → (first ≤ e.place) × (e.due ≤ moment)
past_so first moment e t = ⊎_elim
    (λ (l : nat_le first e.place ≡ true). (leb-true first e.place l, leb-true e.due moment (sym (cond-true (nat_le first e.place) (nat_le e.due moment) false l) ∙ t)))
    (λ (l : nat_le first e.place ≡ false). let bad : false ≡ true = sym (cond-false (nat_le first e.place) (nat_le e.due moment) false l) ∙ t in absurd cc)
    (cases_Bool (nat_le first e.place))

not_leb : (x y : ℕ) → y < x → nat_le x y ≡ false
not_leb x y l = ⊎_elim
    (λ (t : nat_le x y ≡ true). let k = leb-true x y t in absurd (omega (arith, k, l)))
    (λ (t : nat_le x y ≡ false). t)
    (cases_Bool (nat_le x y))

pub none_ready : (first moment : ℕ) (ss : List Session) (es : List ReceiptEntry) → first_such (is_past_from receipt_key receipt_due first moment) es ≡ None → first_such (is_ready first moment ss) es ≡ None
none_ready first moment ss [] e = refl
none_ready first moment ss (x ∷ es) e = ⊎_elim
    (λ (t : is_past_from receipt_key receipt_due first moment x ≡ true).
    let bad : Some x ≡ None = sym (cond-true (is_past_from receipt_key receipt_due first moment x) (Some x) (first_such (is_past_from receipt_key receipt_due first moment) es) t) ∙ e in absurd cc)
    (λ (t : is_past_from receipt_key receipt_due first moment x ≡ false).
    cond-false (is_ready first moment ss x) (Some x) (first_such (is_ready first moment ss) es) (ap (λ (b : Bool). b && not (is_unanswered x.id ss)) t)
    ∙ none_ready first moment ss es (sym (cond-false (is_past_from receipt_key receipt_due first moment x) (Some x) (first_such (is_past_from receipt_key receipt_due first moment) es) t) ∙ e))
    (cases_Bool (is_past_from receipt_key receipt_due first moment x))

pub one_ready : (first moment : ℕ) (ss : List Session) (e : ReceiptEntry) (es : List ReceiptEntry) → first_such (is_past_from receipt_key receipt_due first moment) es ≡ Some e → is_unanswered e.id ss ≡ false
    → first_such (is_ready first moment ss) es ≡ Some e
one_ready first moment ss e [] q u = absurd cc
one_ready first moment ss e (x ∷ es) q u = ⊎_elim
    (λ (t : is_past_from receipt_key receipt_due first moment x ≡ true).
    let same : x ≡ e = same_Some x e (sym (cond-true (is_past_from receipt_key receipt_due first moment x) (Some x) (first_such (is_past_from receipt_key receipt_due first moment) es) t) ∙ q) in
    let unsent : is_unanswered x.id ss ≡ false = ap (λ (y : ReceiptEntry). is_unanswered y.id ss) same ∙ u in
    cond-true (is_ready first moment ss x) (Some x) (first_such (is_ready first moment ss) es)
    (ap (λ (b : Bool). b && not (is_unanswered x.id ss)) t ∙ ap (λ (b : Bool). not b) unsent)
    ∙ ap (λ (y : ReceiptEntry). Some y) same)
    (λ (t : is_past_from receipt_key receipt_due first moment x ≡ false).
    cond-false (is_ready first moment ss x) (Some x) (first_such (is_ready first moment ss) es) (ap (λ (b : Bool). b && not (is_unanswered x.id ss)) t)
    ∙ one_ready first moment ss e es (sym (cond-false (is_past_from receipt_key receipt_due first moment x) (Some x) (first_such (is_past_from receipt_key receipt_due first moment) es) t) ∙ q) u)
    (cases_Bool (is_past_from receipt_key receipt_due first moment x))

-- those behind a place
ready_later : (first next moment : ℕ) (ss : List Session) (es : List ReceiptEntry) → first ≤ next → ((x : ReceiptEntry) → Among x es → next ≤ x.place)
    → first_such (is_ready first moment ss) es ≡ first_such (is_ready next moment ss) es
ready_later first next moment ss [] l f = refl
ready_later first next moment ss (x ∷ es) l f =
    let there : next ≤ x.place = f x (inl refl) in
    let one : nat_le first x.place ≡ true = le-leb first x.place (omega (arith, l, there)) in
    let two : nat_le next x.place ≡ true = le-leb next x.place there in
    ap (λ (o : Option ReceiptEntry). if is_ready first moment ss x then Some x else o) (ready_later first next moment ss es l (λ y m. f y (inr m)))
    ∙ ap (λ (b : Bool). if (if b then nat_le x.due moment else false) && not (is_unanswered x.id ss) then Some x else first_such (is_ready next moment ss) es) (one ∙ sym two)

pub passed_over : (first moment : ℕ) (ss : List Session) (e : ReceiptEntry) (es : List ReceiptEntry) → Rises receipt_key es → first_such (is_past_from receipt_key receipt_due first moment) es ≡ Some e → is_unanswered e.id ss ≡ true
    → first_such (is_ready first moment ss) es ≡ first_such (is_ready (e.place + 1) moment ss) es
passed_over first moment ss e [] h q u = refl
passed_over first moment ss e (x ∷ es) h q u = ⊎_elim
    (λ (t : is_past_from receipt_key receipt_due first moment x ≡ true).
    let same : x ≡ e = same_Some x e (sym (cond-true (is_past_from receipt_key receipt_due first moment x) (Some x) (first_such (is_past_from receipt_key receipt_due first moment) es) t) ∙ q) in
    let place : x.place ≡ e.place = ap (λ (y : ReceiptEntry). y.place) same in
    let sent : is_unanswered x.id ss ≡ true = ap (λ (y : ReceiptEntry). is_unanswered y.id ss) same ∙ u in
    let past = past_so first moment x t in
    let lower : nat_le (e.place + 1) x.place ≡ false = not_leb (e.place + 1) x.place (omega (arith, place)) in
    cond-false (is_ready first moment ss x) (Some x) (first_such (is_ready first moment ss) es) (ap (λ (b : Bool). is_past_from receipt_key receipt_due first moment x && not b) sent ∙ and_false (is_past_from receipt_key receipt_due first moment x))
    ∙ ready_later first (e.place + 1) moment ss es (let l = past.0 in omega (arith, l, place)) (λ y m. let l = above_member x.place y es h.0 m in omega (arith, l, place))
    ∙ sym (cond-false (is_ready (e.place + 1) moment ss x) (Some x) (first_such (is_ready (e.place + 1) moment ss) es)
    (ap (λ (b : Bool). (if b then nat_le x.due moment else false) && not (is_unanswered x.id ss)) lower)))
    (λ (t : is_past_from receipt_key receipt_due first moment x ≡ false).
    let rest : first_such (is_past_from receipt_key receipt_due first moment) es ≡ Some e = sym (cond-false (is_past_from receipt_key receipt_due first moment x) (Some x) (first_such (is_past_from receipt_key receipt_due first moment) es) t) ∙ q in
    let there = first_found (is_past_from receipt_key receipt_due first moment) e es rest in
    let above = above_member x.place e es h.0 there.0 in
    let lower : nat_le (e.place + 1) x.place ≡ false = not_leb (e.place + 1) x.place (omega (arith, above)) in
    cond-false (is_ready first moment ss x) (Some x) (first_such (is_ready first moment ss) es) (ap (λ (b : Bool). b && not (is_unanswered x.id ss)) t)
    ∙ passed_over first moment ss e es h.1 rest u
    ∙ sym (cond-false (is_ready (e.place + 1) moment ss x) (Some x) (first_such (is_ready (e.place + 1) moment ss) es)
    (ap (λ (b : Bool). (if b then nat_le x.due moment else false) && not (is_unanswered x.id ss)) lower)))
    (cases_Bool (is_past_from receipt_key receipt_due first moment x))

-- the first that is due stands no earlier than the place
pub due_behind : (first moment : ℕ) (e : ReceiptEntry) (es : List ReceiptEntry) → first_such (is_past_from receipt_key receipt_due first moment) es ≡ Some e → first ≤ e.place
due_behind first moment e es q = (past_so first moment e (first_found (is_past_from receipt_key receipt_due first moment) e es q).1).0

module _ {B : Type 0} (pick : ReportRow → Option B) where
  pub preserved_among : (r : ReportRow) (e : B) (rows : List ReportRow) → Among r rows → pick r ≡ Some e → Among e (picked pick rows)
  preserved_among r e [] m p = elim m [ ]
  preserved_among r e (x ∷ rows) m p = ⊎_elim
      (λ (q : r ≡ x). here (pick x) (sym (ap pick q) ∙ p))
      (λ (k : Among r rows). behind (pick x) (preserved_among r e rows k p))
      m
    where
      here : (o : Option B) → o ≡ Some e → Among e (before_all o (picked pick rows))
      here None f = absurd cc
      here (Some b) f = inl (sym (same_Some b e f))

      behind : (o : Option B) → Among e (picked pick rows) → Among e (before_all o (picked pick rows))
      behind None k = k
      behind (Some b) k = inr k

  among_first : (e : B) (x : ReportRow) (rows : List ReportRow) (o : Option B) → pick x ≡ o → (Among e (picked pick rows) → (r : ReportRow) × (Among r rows × (pick r ≡ Some e))) → Among e (before_all o (picked pick rows))
      → (r : ReportRow) × (Among r (x ∷ rows) × (pick r ≡ Some e))
  among_first e x rows None p rest k = let f = rest k in (f.0, (inr f.1.0, f.1.1))
  among_first e x rows (Some b) p rest k = ⊎_elim
      (λ (q : e ≡ b). (x, (inl refl, p ∙ ap (λ (y : B). Some y) (sym q))))
      (λ (n : Among e (picked pick rows)). let f = rest n in (f.0, (inr f.1.0, f.1.1)))
      k

  pub among_preserved : (e : B) (rows : List ReportRow) → Among e (picked pick rows) → (r : ReportRow) × (Among r rows × (pick r ≡ Some e))
  among_preserved e [] m = elim m [ ]
  among_preserved e (x ∷ rows) m = among_first e x rows (pick x) refl (λ k. among_preserved e rows k) m

-- ---- sessions of an account

same_account : (o : Originator) (name account : List ℕ) → account_of o ≡ Some name → is_account account o ≡ bytes_eq name account
same_account (Application a) name account e = ap (λ (x : List ℕ). bytes_eq x account) (same_Some a name e)
same_account (Handset n) name account e = absurd cc

no_account : (o : Originator) (account : List ℕ) → account_of o ≡ None → is_account account o ≡ false
no_account (Application a) account e = absurd cc
no_account (Handset n) account e = refl

session_serving : (o : Option MessageRow) (name : List ℕ) (ss : List Session) → account_in o ≡ Some name → session_for o ss ≡ serving name ss
session_serving None name ss e = absurd cc
session_serving (Some m) name ss e =
    fewest_same (receives_for m) (receives_as name) (λ s. ap (λ (t : Bool). s.receives && t) (same_account m.originator name s.account e)) ss

session_none : (o : Option MessageRow) (ss : List Session) → account_in o ≡ None → session_for o ss ≡ None
session_none None ss e = refl
session_none (Some m) ss e =
    fewest_none (receives_for m) (λ s. ap (λ (t : Bool). s.receives && t) (no_account m.originator s.account e) ∙ and_false s.receives) ss

serving_found : (name : List ℕ) (s : Session) (ss : List Session) → serving name ss ≡ Some s → Among s ss × (name ≡ s.account)
serving_found name s ss e =
    let f = fewest_found (receives_as name) s ss e in
    (f.0, (bytes_eq-Decides name s.account).0 (and_parts s.receives (bytes_eq name s.account) f.1).1)

-- ---- what goes

room_of : (o : Option Session) (s : Session) → with_room o ≡ Some s → (o ≡ Some s) × (nat_lt (length s.unanswered) window ≡ true)
room_of None s e = absurd cc
room_of (Some a) s e = ⊎_elim
    (λ (t : nat_lt (length a.unanswered) window ≡ true).
    let same : a ≡ s = same_Some a s (sym (cond-true (nat_lt (length a.unanswered) window) (Some a) None t) ∙ e) in
    (ap (λ (x : Session). Some x) same, subst (λ (x : Session). nat_lt (length x.unanswered) window ≡ true) same t))
    (λ (t : nat_lt (length a.unanswered) window ≡ false). let bad : None ≡ Some s = sym (cond-false (nat_lt (length a.unanswered) window) (Some a) None t) ∙ e in absurd cc)
    (cases_Bool (nat_lt (length a.unanswered) window))

pub record SendsReceipt (moment : ℕ) (ms : List MessageRow) (ss : List Session) (r : ReportRow) (s : Session) : Type 0 where
  pub opened : is_open_receipt r ≡ true
  pub due : r.progress.due ≤ moment
  pub unsent : is_unanswered r.id ss ≡ false
  pub session : session_for (message_at r.id ms) ss ≡ Some s
  pub room : nat_lt (length s.unanswered) window ≡ true

goes_so : (moment : ℕ) (ms : List MessageRow) (ss : List Session) (r : ReportRow) (s : Session) → sending_session moment ms ss r ≡ Some s → SendsReceipt moment ms ss r s
goes_so moment ms ss r s e = ⊎_elim
    (λ (t : waits moment r ss ≡ true).
    let one = and_parts (is_open_receipt r) (nat_le r.progress.due moment && not (is_unanswered r.id ss)) t in
    let two = and_parts (nat_le r.progress.due moment) (not (is_unanswered r.id ss)) one.1 in
    let at = room_of (session_for (message_at r.id ms) ss) s (sym (cond-true (waits moment r ss) (with_room (session_for (message_at r.id ms) ss)) None t) ∙ e) in
    record { opened = one.0; due = leb-true r.progress.due moment two.0; unsent = not-true (is_unanswered r.id ss) two.1; session = at.0; room = at.1 })
    (λ (t : waits moment r ss ≡ false). let bad : None ≡ Some s = sym (cond-false (waits moment r ss) (with_room (session_for (message_at r.id ms) ss)) None t) ∙ e in absurd cc)
    (cases_Bool (waits moment r ss))

so_goes : (moment : ℕ) (ms : List MessageRow) (ss : List Session) (r : ReportRow) (s : Session) → SendsReceipt moment ms ss r s → sending_session moment ms ss r ≡ Some s
so_goes moment ms ss r s goes =
    let waiting : waits moment r ss ≡ true =
    and_from (is_open_receipt r) (nat_le r.progress.due moment && not (is_unanswered r.id ss)) goes.opened
    (and_from (nat_le r.progress.due moment) (not (is_unanswered r.id ss)) (le-leb r.progress.due moment goes.due) (not_from_false (is_unanswered r.id ss) goes.unsent)) in
    cond-true (waits moment r ss) (with_room (session_for (message_at r.id ms) ss)) None waiting
    ∙ ap (λ (o : Option Session). with_room o) goes.session ∙ cond-true (nat_lt (length s.unanswered) window) (Some s) None goes.room

-- ---- from the rows to what is kept, and back

so_past : (first moment : ℕ) (e : ReceiptEntry) → first ≤ e.place → e.due ≤ moment → is_past_from receipt_key receipt_due first moment e ≡ true
so_past first moment e l d = cond-true (nat_le first e.place) (nat_le e.due moment) false (le-leb first e.place l) ∙ le-leb e.due moment d

abbrev pub preserved_of : ReportRow → ReceiptEntry
preserved_of r = record { place = r.place; id = r.id; due = r.progress.due }

module _ (first moment : ℕ) (ms : List MessageRow) (current : OpenReportsOf) (rows : List ReportRow) (represents : Represents ms current rows) (ss : List Session) where
  pub receipts_rise : (name : List ℕ) → Rises receipt_key (receipts_at name current.accounts)
  receipts_rise name = subst (λ (es : List ReceiptEntry). Rises receipt_key es) (sym (represents.receipts name)) (picked_rises report_key receipt_key (receipt_entry name ms) (receipt_place name ms) rows represents.keys)

  account_case : (x : ReportRow) (s : Session) → session_for (message_at x.id ms) ss ≡ Some s → (name : List ℕ) × (account_in (message_at x.id ms) ≡ Some name)
  account_case x s e = by (account_in (message_at x.id ms)) refl where
    by : (o : Option (List ℕ)) → account_in (message_at x.id ms) ≡ o → (name : List ℕ) × (account_in (message_at x.id ms) ≡ Some name)
    by None q = let bad : None ≡ Some s = sym (session_none (message_at x.id ms) ss q) ∙ e in absurd cc
    by (Some name) q = (name, q)

  complete : (x : ReportRow) (s : Session) → Among x rows → first ≤ x.place → SendsReceipt moment ms ss x s → Among s ss × ((e : ReceiptEntry) × ((next_in first moment ss current.accounts s ≡ Some e) × (e.place ≤ x.place)))
  complete x s m l goes =
      let account = account_case x s goes.session in
      let served : serving account.0 ss ≡ Some s = sym (session_serving (message_at x.id ms) account.0 ss account.1) ∙ goes.session in
      let found = serving_found account.0 s ss served in
      let own : serving s.account ss ≡ Some s = ap (λ (n : List ℕ). serving n ss) (sym found.1) ∙ served in
      let mine : account_in (message_at x.id ms) ≡ Some s.account = account.1 ∙ ap (λ (n : List ℕ). Some n) found.1 in
      let named : is_named s.account (account_in (message_at x.id ms)) ≡ true = ap (λ (o : Option (List ℕ)). is_named s.account o) mine ∙ (bytes_eq-Decides s.account s.account).1 refl in
      let entry : receipt_entry s.account ms x ≡ Some (preserved_of x) =
      cond-true (is_open_receipt x && is_named s.account (account_in (message_at x.id ms))) (Some (preserved_of x)) None (and_from (is_open_receipt x) (is_named s.account (account_in (message_at x.id ms))) goes.opened named) in
      let there : Among (preserved_of x) (receipts_at s.account current.accounts) =
      subst (λ (es : List ReceiptEntry). Among (preserved_of x) es) (sym (represents.receipts s.account)) (preserved_among (receipt_entry s.account ms) x (preserved_of x) rows m entry) in
      let ready : is_ready first moment ss (preserved_of x) ≡ true =
      and_from (is_past_from receipt_key receipt_due first moment (preserved_of x)) (not (is_unanswered x.id ss)) (so_past first moment (preserved_of x) l goes.due) (not_from_false (is_unanswered x.id ss) goes.unsent) in
      let reached = first_reaches (is_ready first moment ss) (preserved_of x) (receipts_at s.account current.accounts) (receipts_rise s.account) there ready in
      let is_own : is_session s (serving s.account ss) ≡ true = ap (λ (o : Option Session). is_session s o) own ∙ eq-eqb s.number s.number refl in
      let test : (is_session s (serving s.account ss) && nat_lt (length s.unanswered) window) ≡ true = and_from (is_session s (serving s.account ss)) (nat_lt (length s.unanswered) window) is_own goes.room in (
        found.0,
        (
          reached.0,
          (cond-true (is_session s (serving s.account ss) && nat_lt (length s.unanswered) window) (first_such (is_ready first moment ss) (receipts_at s.account current.accounts)) None test ∙ reached.1.0, reached.1.1),
        ),
      )

  is_it : (s : Session) (o : Option Session) → is_session s o ≡ true → (t : Session) × ((o ≡ Some t) × (t.number ≡ s.number))
  is_it s None e = absurd cc
  is_it s (Some t) e = (t, (refl, eqb-true t.number s.number e))

  -- what goes in a session is a receipt that goes in it
  found_goes : (s : Session) (e : ReceiptEntry) → Rises session_key ss → Among s ss → next_in first moment ss current.accounts s ≡ Some e
      → (r : ReportRow) × ((Among r rows × (preserved_of r ≡ e)) × ((first ≤ r.place) × SendsReceipt moment ms ss r s))
  found_goes s e rises m q = ⊎_elim
      (λ (t : (is_session s (serving s.account ss) && nat_lt (length s.unanswered) window) ≡ true).
      let parts = and_parts (is_session s (serving s.account ss)) (nat_lt (length s.unanswered) window) t in
      let f = first_found (is_ready first moment ss) e (receipts_at s.account current.accounts)
      (sym (cond-true (is_session s (serving s.account ss) && nat_lt (length s.unanswered) window) (first_such (is_ready first moment ss) (receipts_at s.account current.accounts)) None t) ∙ q) in
      let row = among_preserved (receipt_entry s.account ms) e rows (subst (λ (es : List ReceiptEntry). Among e es) (represents.receipts s.account) f.0) in
      let r : ReportRow = row.0 in
      let kept_so = kept_where (is_open_receipt r && is_named s.account (account_in (message_at r.id ms))) (preserved_of r) e row.1.1 in
      let shut = and_parts (is_open_receipt r) (is_named s.account (account_in (message_at r.id ms))) kept_so.0 in
      let ready = and_parts (is_past_from receipt_key receipt_due first moment e) (not (is_unanswered e.id ss)) f.1 in
      let past = past_so first moment e ready.0 in
      let it = is_it s (serving s.account ss) parts.0 in
      let among = serving_found s.account it.0 ss it.1.0 in
      let same : it.0 ≡ s = same_Some it.0 s (sym (among_found session_key it.0 ss rises among.0) ∙ ap (λ (n : ℕ). row_at session_key n ss) it.1.1 ∙ among_found session_key s ss rises m) in
      let place : r.place ≡ e.place = ap (λ (x : ReceiptEntry). x.place) kept_so.1 in
      let due : r.progress.due ≡ e.due = ap (λ (x : ReceiptEntry). x.due) kept_so.1 in (
        r,
        (
          (row.1.0, kept_so.1),
          (
            subst (λ (n : ℕ). first ≤ n) (sym place) past.0,
            record {
              opened = shut.0;
              due = subst (λ (n : ℕ). n ≤ moment) (sym due) past.1;
              unsent = ap (λ (x : ReceiptEntry). is_unanswered x.id ss) kept_so.1 ∙ not-true (is_unanswered e.id ss) ready.1;
              session = session_named r shut.1 ∙ it.1.0 ∙ ap (λ (x : Session). Some x) same;
              room = parts.1;
            },
          ),
        ),
      ))
      (λ (t : (is_session s (serving s.account ss) && nat_lt (length s.unanswered) window) ≡ false).
      let bad : None ≡ Some e = sym (cond-false (is_session s (serving s.account ss) && nat_lt (length s.unanswered) window) (first_such (is_ready first moment ss) (receipts_at s.account current.accounts)) None t) ∙ q in absurd cc)
      (cases_Bool (is_session s (serving s.account ss) && nat_lt (length s.unanswered) window))
    where
      session_named : (r : ReportRow) → is_named s.account (account_in (message_at r.id ms)) ≡ true → session_for (message_at r.id ms) ss ≡ serving s.account ss
      session_named r t = by (account_in (message_at r.id ms)) refl t where
        by : (o : Option (List ℕ)) → account_in (message_at r.id ms) ≡ o → is_named s.account o ≡ true → session_for (message_at r.id ms) ss ≡ serving s.account ss
        by None a u = absurd cc
        by (Some name) a u = session_serving (message_at r.id ms) name ss a ∙ ap (λ (n : List ℕ). serving n ss) ((bytes_eq-Decides name s.account).0 u)

  -- ---- the earliest of all

  earlier_left : (a : Next) (o : Option Next) → (n : Next) × ((earlier (Some a) o ≡ Some n) × (n.receipt.place ≤ a.receipt.place))
  earlier_left a None = (a, (refl, omega arith))
  earlier_left a (Some b) = ⊎_elim
      (λ (t : nat_le a.receipt.place b.receipt.place ≡ true). (a, (ap (λ (n : Next). Some n) (cond-true (nat_le a.receipt.place b.receipt.place) a b t), omega arith)))
      (λ (t : nat_le a.receipt.place b.receipt.place ≡ false). (b, (ap (λ (n : Next). Some n) (cond-false (nat_le a.receipt.place b.receipt.place) a b t), not_le a.receipt.place b.receipt.place t)))
      (cases_Bool (nat_le a.receipt.place b.receipt.place))
    where
      not_le : (x y : ℕ) → nat_le x y ≡ false → y ≤ x
      not_le x y t = ⊎_elim
          (λ (l : y < x). omega (arith, l))
          (λ (l : x ≤ y). let bad : true ≡ false = sym (le-leb x y l) ∙ t in absurd cc)
          (cases_lt y x)

  earlier_right : (o : Option Next) (b : Next) → (n : Next) × ((earlier o (Some b) ≡ Some n) × (n.receipt.place ≤ b.receipt.place))
  earlier_right None b = (b, (refl, omega arith))
  earlier_right (Some a) b = ⊎_elim
      (λ (t : nat_le a.receipt.place b.receipt.place ≡ true). (a, (ap (λ (n : Next). Some n) (cond-true (nat_le a.receipt.place b.receipt.place) a b t), leb-true a.receipt.place b.receipt.place t)))
      (λ (t : nat_le a.receipt.place b.receipt.place ≡ false). (b, (ap (λ (n : Next). Some n) (cond-false (nat_le a.receipt.place b.receipt.place) a b t), omega arith)))
      (cases_Bool (nat_le a.receipt.place b.receipt.place))

  least : (s : Session) (e : ReceiptEntry) (sessions : List Session) → Among s sessions → next_in first moment ss current.accounts s ≡ Some e
      → (n : Next) × ((next_among first moment ss current.accounts sessions ≡ Some n) × (n.receipt.place ≤ e.place))
  least s e [] m q = elim m [ ]
  least s e (x ∷ xs) m q = ⊎_elim
      (λ (p : s ≡ x).
      let here : next_from x (next_in first moment ss current.accounts x) ≡ Some (record { session = x; receipt = e }) =
      ap (λ (o : Option ReceiptEntry). next_from x o) (ap (λ (y : Session). next_in first moment ss current.accounts y) (sym p) ∙ q) in
      let n = earlier_left (record { session = x; receipt = e }) (next_among first moment ss current.accounts xs) in
      (n.0, (ap (λ (o : Option Next). earlier o (next_among first moment ss current.accounts xs)) here ∙ n.1.0, n.1.1)))
      (λ (k : Among s xs).
      let l = least s e xs k q in
      let n = earlier_right (next_from x (next_in first moment ss current.accounts x)) l.0 in
      (n.0, (ap (λ (o : Option Next). earlier (next_from x (next_in first moment ss current.accounts x)) o) l.1.0 ∙ n.1.0, omega (arith, n.1.1, l.1.1))))
      m

  earlier_one : (o p : Option Next) (n : Next) → earlier o p ≡ Some n → (o ≡ Some n) ⊎ (p ≡ Some n)
  earlier_one None p n e = inr e
  earlier_one (Some a) None n e = inl e
  earlier_one (Some a) (Some b) n e = ⊎_elim
      (λ (t : nat_le a.receipt.place b.receipt.place ≡ true). inl (ap (λ (x : Next). Some x) (sym (cond-true (nat_le a.receipt.place b.receipt.place) a b t)) ∙ e))
      (λ (t : nat_le a.receipt.place b.receipt.place ≡ false). inr (ap (λ (x : Next). Some x) (sym (cond-false (nat_le a.receipt.place b.receipt.place) a b t)) ∙ e))
      (cases_Bool (nat_le a.receipt.place b.receipt.place))

  from_one : (s : Session) (o : Option ReceiptEntry) (n : Next) → next_from s o ≡ Some n → (n.session ≡ s) × (o ≡ Some n.receipt)
  from_one s None n e = absurd cc
  from_one s (Some r) n e = let same : record { session = s; receipt = r } ≡ n = same_Some (record { session = s; receipt = r }) n e in
      (ap (λ (x : Next). x.session) (sym same), ap (λ (x : Next). Some x.receipt) same)

  pub next_is : (n : Next) (sessions : List Session) → next_among first moment ss current.accounts sessions ≡ Some n → Among n.session sessions × (next_in first moment ss current.accounts n.session ≡ Some n.receipt)
  next_is n [] e = absurd cc
  next_is n (x ∷ xs) e = ⊎_elim
      (λ (f : next_from x (next_in first moment ss current.accounts x) ≡ Some n).
      let one = from_one x (next_in first moment ss current.accounts x) n f in
      (inl one.0, ap (λ (y : Session). next_in first moment ss current.accounts y) one.0 ∙ one.1))
      (λ (f : next_among first moment ss current.accounts xs ≡ Some n). let r = next_is n xs f in (inr r.0, r.1))
      (earlier_one (next_from x (next_in first moment ss current.accounts x)) (next_among first moment ss current.accounts xs) n e)

  -- what goes comes no earlier than the next
  none_before : (o : Option Next) → next_among first moment ss current.accounts ss ≡ o → (x : ReportRow) → Among x rows → first ≤ x.place → ((n : Next) → o ≡ Some n → x.place < n.receipt.place) → sending_session moment ms ss x ≡ None
  none_before o e x m l before = by (sending_session moment ms ss x) refl where
    by : (g : Option Session) → sending_session moment ms ss x ≡ g → sending_session moment ms ss x ≡ None
    by None q = q
    by (Some s) q =
        let c = complete x s m l (goes_so moment ms ss x s q) in
        let n = least s c.1.0 ss c.0 c.1.1.0 in
        let lower = before n.0 (sym e ∙ n.1.0) in
        absurd (omega (arith, lower, n.1.1, c.1.1.1))

  -- it stands no earlier than the place
  pub next_behind : (n : Next) (sessions : List Session) → next_among first moment ss current.accounts sessions ≡ Some n → first ≤ n.receipt.place
  next_behind n sessions e =
      let s : Session = n.session in
      let here : next_in first moment ss current.accounts s ≡ Some n.receipt = (next_is n sessions e).1 in
      ⊎_elim
      (λ (t : (is_session s (serving s.account ss) && nat_lt (length s.unanswered) window) ≡ true).
      let f = first_found (is_ready first moment ss) n.receipt (receipts_at s.account current.accounts)
      (sym (cond-true (is_session s (serving s.account ss) && nat_lt (length s.unanswered) window) (first_such (is_ready first moment ss) (receipts_at s.account current.accounts)) None t) ∙ here) in
      (past_so first moment n.receipt (and_parts (is_past_from receipt_key receipt_due first moment n.receipt) (not (is_unanswered n.receipt.id ss)) f.1).0).0)
      (λ (t : (is_session s (serving s.account ss) && nat_lt (length s.unanswered) window) ≡ false).
      let bad : None ≡ Some n.receipt = sym (cond-false (is_session s (serving s.account ss) && nat_lt (length s.unanswered) window) (first_such (is_ready first moment ss) (receipts_at s.account current.accounts)) None t) ∙ here in absurd cc)
      (cases_Bool (is_session s (serving s.account ss) && nat_lt (length s.unanswered) window))

  pub sends_end : (bindings : Bindings) → bindings.sessions ≡ ss → next_among first moment ss current.accounts ss ≡ None → send_all moment ms (rows_from report_key first rows) bindings ≡ bindings
  sends_end bindings same e = walk_ends moment ms first rows bindings represents.keys (λ r m l.
      subst (λ (sessions : List Session). sending_session moment ms sessions r ≡ None) (sym same) (none_before None e r m l (λ n q. absurd cc)))

  pub sends_on : (bindings : Bindings) (n : Next) → bindings.sessions ≡ ss → Rises session_key ss → next_among first moment ss current.accounts ss ≡ Some n
      → send_all moment ms (rows_from report_key first rows) bindings ≡ send_all moment ms (rows_from report_key (n.receipt.place + 1) rows) (send_in n.receipt.id n.session bindings)
  sends_on bindings n same rises e =
      let is = next_is n ss e in
      let f = found_goes n.session n.receipt rises is.0 is.1 in
      let place : f.0.place ≡ n.receipt.place = ap (λ (x : ReceiptEntry). x.place) f.1.0.1 in
      let id : f.0.id ≡ n.receipt.id = ap (λ (x : ReceiptEntry). x.id) f.1.0.1 in
      walk_on moment ms first rows f.0 n.session bindings represents.keys f.1.0.0 f.1.1.0
      (λ x m l before. subst (λ (sessions : List Session). sending_session moment ms sessions x ≡ None) (sym same)
      (none_before (Some n) e x m l (λ k q. let one : n ≡ k = same_Some n k q in subst (λ (y : Next). x.place < y.receipt.place) one (omega (arith, before, place)))))
      (subst (λ (sessions : List Session). sending_session moment ms sessions f.0 ≡ Some n.session) (sym same) (so_goes moment ms ss f.0 n.session f.1.1.1))
      ∙ ap (λ (k : ℕ). send_all moment ms (rows_from report_key (k + 1) rows) (send_in f.0.id n.session bindings)) place
      ∙ ap (λ (k : ℕ). send_all moment ms (rows_from report_key (n.receipt.place + 1) rows) (send_in k n.session bindings)) id
