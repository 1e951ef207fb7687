-- Receipts go from the front on: what goes nowhere is passed over, and the walk goes on behind the first that goes.
use Rattle.std.proofs.Common.{◌≡◌, ℕ, ◌+◌, ◌<◌, ◌≤◌, List, [], ◌∷◌, true, false, Option, Some, None, refl, sym, ◌∙◌, ap, subst, inl, inr, ⊎_elim, length, arith}
use Rattle.std.specs.Prelude.{nat_lt}
use Rattle.std.proofs.lemmas.Bool.{cases_Bool, cases_lt, cond-true, cond-false, le-ltb, lt-ltb}
use Rattle.sms_base.specs.Among.{Among}
use Rattle.sms_rows.specs.table.Table.{AllAbove, Rises, rows_from}
use Rattle.sms_centre_rows.specs.declared.messages.message.MessageRow.{MessageRow}
use Rattle.sms_centre_rows.specs.messages.Messages.{message_at}
use Rattle.sms_centre_rows.specs.declared.reports.report.ReportRow.{ReportRow}
use Rattle.sms_centre_rows.specs.reports.Receipts.{Bindings, Session, send, send_all, send_in, send_to, session_for, waits, window}
use Rattle.sms_centre_rows.specs.reports.Reports.{report_key}
use Rattle.sms_centre_reports.specs.open_reports.DueReceipts.{sending_session, with_room}

-- ---- rows from a place on

pub from_here : (n : ℕ) (r : ReportRow) (rs : List ReportRow) → n ≤ r.place → rows_from report_key n (r ∷ rs) ≡ r ∷ rs
from_here n r rs l = cond-false (nat_lt r.place n) (rows_from report_key n rs) (r ∷ rs) (le-ltb r.place n l)

pub from_behind : (n : ℕ) (r : ReportRow) (rs : List ReportRow) → r.place < n → rows_from report_key n (r ∷ rs) ≡ rows_from report_key n rs
from_behind n r rs l = cond-true (nat_lt r.place n) (rows_from report_key n rs) (r ∷ rs) (lt-ltb r.place n l)

pub from_all : (n m : ℕ) (rs : List ReportRow) → AllAbove report_key m rs → n ≤ m + 1 → rows_from report_key n rs ≡ rs
from_all n m [] h l = refl
from_all n m (r ∷ rs) h l = from_here n r rs (omega (arith, h.0, l))

pub above_one : (n : ℕ) (s : ReportRow) (rs : List ReportRow) → AllAbove report_key n rs → Among s rs → n < s.place
above_one n s [] h m = elim m [ ]
above_one n s (r ∷ rs) h m = ⊎_elim
    (λ (e : s ≡ r). subst (λ (x : ReportRow). n < x.place) (sym e) h.0)
    (λ (k : Among s rs). above_one n s rs h.1 k)
    m

module _ (moment : ℕ) (ms : List MessageRow) where
  to_none : (id : ℕ) (o : Option Session) (bindings : Bindings) → with_room o ≡ None → send_to id o bindings ≡ bindings
  to_none id None bindings e = refl
  to_none id (Some s) bindings e = ⊎_elim
      (λ (t : nat_lt (length s.unanswered) window ≡ true). let bad : Some s ≡ None = sym (cond-true (nat_lt (length s.unanswered) window) (Some s) None t) ∙ e in absurd cc)
      (λ (t : nat_lt (length s.unanswered) window ≡ false). cond-false (nat_lt (length s.unanswered) window) (send_in id s bindings) bindings t)
      (cases_Bool (nat_lt (length s.unanswered) window))

  one_session : (a b : Session) → Some a ≡ Some b → a ≡ b
  one_session a b e = cc

  to_some : (id : ℕ) (o : Option Session) (s : Session) (bindings : Bindings) → with_room o ≡ Some s → send_to id o bindings ≡ send_in id s bindings
  to_some id None s bindings e = absurd cc
  to_some id (Some a) s bindings e = ⊎_elim
      (λ (t : nat_lt (length a.unanswered) window ≡ true).
      let same : a ≡ s = one_session a s (sym (cond-true (nat_lt (length a.unanswered) window) (Some a) None t) ∙ e) in
      cond-true (nat_lt (length a.unanswered) window) (send_in id a bindings) bindings t ∙ ap (λ (x : Session). send_in id x bindings) same)
      (λ (t : nat_lt (length a.unanswered) window ≡ false). let bad : None ≡ Some s = sym (cond-false (nat_lt (length a.unanswered) window) (Some a) None t) ∙ e in absurd cc)
      (cases_Bool (nat_lt (length a.unanswered) window))

  send_none : (r : ReportRow) (bindings : Bindings) → sending_session moment ms bindings.sessions r ≡ None → send moment ms r bindings ≡ bindings
  send_none r bindings e = ⊎_elim
      (λ (t : waits moment r bindings.sessions ≡ true).
      cond-true (waits moment r bindings.sessions) (send_to r.id (session_for (message_at r.id ms) bindings.sessions) bindings) bindings t
      ∙ to_none r.id (session_for (message_at r.id ms) bindings.sessions) bindings (sym (cond-true (waits moment r bindings.sessions) (with_room (session_for (message_at r.id ms) bindings.sessions)) None t) ∙ e))
      (λ (t : waits moment r bindings.sessions ≡ false). cond-false (waits moment r bindings.sessions) (send_to r.id (session_for (message_at r.id ms) bindings.sessions) bindings) bindings t)
      (cases_Bool (waits moment r bindings.sessions))

  send_some : (r : ReportRow) (s : Session) (bindings : Bindings) → sending_session moment ms bindings.sessions r ≡ Some s → send moment ms r bindings ≡ send_in r.id s bindings
  send_some r s bindings e = ⊎_elim
      (λ (t : waits moment r bindings.sessions ≡ true).
      cond-true (waits moment r bindings.sessions) (send_to r.id (session_for (message_at r.id ms) bindings.sessions) bindings) bindings t
      ∙ to_some r.id (session_for (message_at r.id ms) bindings.sessions) s bindings (sym (cond-true (waits moment r bindings.sessions) (with_room (session_for (message_at r.id ms) bindings.sessions)) None t) ∙ e))
      (λ (t : waits moment r bindings.sessions ≡ false).
      let bad : None ≡ Some s = sym (cond-false (waits moment r bindings.sessions) (with_room (session_for (message_at r.id ms) bindings.sessions)) None t) ∙ e in absurd cc)
      (cases_Bool (waits moment r bindings.sessions))

  send_rest : (rs : List ReportRow) (bindings : Bindings) → ((r : ReportRow) → Among r rs → sending_session moment ms bindings.sessions r ≡ None) → send_all moment ms rs bindings ≡ bindings
  send_rest [] bindings f = refl
  send_rest (r ∷ rs) bindings f = ap (λ (d : Bindings). send_all moment ms rs d) (send_none r bindings (f r (inl refl))) ∙ send_rest rs bindings (λ s m. f s (inr m))

  -- none goes any more
  pub walk_ends : (first : ℕ) (rs : List ReportRow) (bindings : Bindings) → Rises report_key rs → ((r : ReportRow) → Among r rs → first ≤ r.place → sending_session moment ms bindings.sessions r ≡ None)
      → send_all moment ms (rows_from report_key first rs) bindings ≡ bindings
  walk_ends first [] bindings h f = refl
  walk_ends first (r ∷ rs) bindings h f = ⊎_elim
      (λ (l : r.place < first). ap (λ (l : List ReportRow). send_all moment ms l bindings) (from_behind first r rs l) ∙ walk_ends first rs bindings h.1 (λ s m. f s (inr m)))
      (λ (l : first ≤ r.place). ap (λ (l : List ReportRow). send_all moment ms l bindings) (from_here first r rs l)
      ∙ send_rest (r ∷ rs) bindings (λ s m. f s m (⊎_elim
      (λ (e : s ≡ r). subst (λ (x : ReportRow). first ≤ x.place) (sym e) l)
      (λ (k : Among s rs). let q = above_one r.place s rs h.0 k in omega (arith, q, l))
      m)))
      (cases_lt r.place first)

  -- the first that goes from a place on: the walk goes on behind it
  pub walk_on : (first : ℕ) (rs : List ReportRow) (r : ReportRow) (s : Session) (bindings : Bindings) → Rises report_key rs → Among r rs → first ≤ r.place
      → ((x : ReportRow) → Among x rs → first ≤ x.place → x.place < r.place → sending_session moment ms bindings.sessions x ≡ None) → sending_session moment ms bindings.sessions r ≡ Some s
      → send_all moment ms (rows_from report_key first rs) bindings ≡ send_all moment ms (rows_from report_key (r.place + 1) rs) (send_in r.id s bindings)
  walk_on first [] r s bindings h m l f e = elim m [ ]
  walk_on first (y ∷ ys) r s bindings h m l f e = ⊎_elim
      (λ (q : r ≡ y).
      ap (λ (l : List ReportRow). send_all moment ms l bindings) (from_here first y ys (subst (λ (x : ReportRow). first ≤ x.place) q l))
      ∙ ap (λ (d : Bindings). send_all moment ms ys d) (ap (λ (x : ReportRow). send moment ms x bindings) (sym q) ∙ send_some r s bindings e)
      ∙ ap (λ (l : List ReportRow). send_all moment ms l (send_in r.id s bindings))
      (sym (ap (λ (x : ReportRow). rows_from report_key (x.place + 1) (y ∷ ys)) q ∙ from_behind (y.place + 1) y ys (omega arith) ∙ from_all (y.place + 1) y.place ys h.0 (omega arith))))
      (λ (k : Among r ys).
      let before : y.place < r.place = above_one y.place r ys h.0 k in
      let behind : rows_from report_key (r.place + 1) (y ∷ ys) ≡ rows_from report_key (r.place + 1) ys = from_behind (r.place + 1) y ys (omega (arith, before)) in
      let next = walk_on first ys r s bindings h.1 k l (λ x n. f x (inr n)) e in
      ⊎_elim
      (λ (b : y.place < first).
      ap (λ (l : List ReportRow). send_all moment ms l bindings) (from_behind first y ys b) ∙ next ∙ ap (λ (l : List ReportRow). send_all moment ms l (send_in r.id s bindings)) (sym behind))
      (λ (b : first ≤ y.place).
      ap (λ (l : List ReportRow). send_all moment ms l bindings) (from_here first y ys b)
      ∙ ap (λ (d : Bindings). send_all moment ms ys d) (send_none y bindings (f y (inl refl) b before))
      ∙ ap (λ (l : List ReportRow). send_all moment ms l bindings) (sym (from_all first y.place ys h.0 (omega (arith, b))))
      ∙ next ∙ ap (λ (l : List ReportRow). send_all moment ms l (send_in r.id s bindings)) (sym behind))
      (cases_lt y.place first))
      m
