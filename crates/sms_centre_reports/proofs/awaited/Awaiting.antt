-- What was sent and not answered is so after each move of the sessions.
use Rattle.std.proofs.Common.{◌≡◌, ◌⊎◌, ℕ, List, [], ◌∷◌, ◌++◌, Bool, true, false, Option, Some, None, refl, sym, ◌∙◌, ap, subst, inl, inr, ⊎_elim, length, eq-eqb}
use Rattle.std.specs.Prelude.{◌&&◌, ◌||◌, ◌==◌, nat_le, nat_lt, not, if◌then◌else◌}
use Rattle.std.proofs.lemmas.Bool.{and_parts, cases_Bool, cond_both, cond-true, cond-false, not-true}
use Rattle.std.proofs.lemmas.Slice.Eq.{bytes_eq-Decides}
use Rattle.sms_base.proofs.Lists.{among_end}
use Rattle.sms_base.specs.Among.{Among}
use Rattle.sms_base.specs.declared.originator.Originator.{Originator}
use Rattle.sms_base.specs.declared.originator.Originator.TheVariants.{Application, Handset}
use Rattle.sms_rows.specs.table.Table.{Rises, put}
use Rattle.sms_rows.proofs.table.Tables.{among_put, among_without}
use Rattle.sms_centre_rows.specs.declared.messages.message.MessageRow.{MessageRow}
use Rattle.sms_centre_rows.specs.messages.Messages.{message_at}
use Rattle.sms_centre_rows.specs.messages.SplitReferences.{is_among}
use Rattle.sms_centre_rows.specs.declared.reports.report.ReportRow.{ReportRow}
use Rattle.sms_centre_rows.specs.reports.Receipts.{Bindings, Session, all_tried, answered_in, is_account, is_put_off, is_unanswered, put_session, receipt_ended, receipt_tried, receipts_due, receives_for, send, send_all, send_in, send_to, session_for, session_key, waits, window, without_id}
use Rattle.sms_centre_rows.specs.reports.Reports.{amend_report, is_open_receipt, is_receipt, report_key, report_of, reports_of}
use Rattle.sms_centre_rows.specs.reports.Waiting.{Alone}
use Rattle.sms_centre_rows.proofs.reports.AllWaiting.{report_found}
use Rattle.sms_centre_rows.proofs.reports.ReportRows.{amended_other}
use Rattle.sms_centre_rows.proofs.reports.Serving.{fewest_found}
use Rattle.sms_centre_reports.specs.open_reports.Awaited.{IsAwaited}
use Rattle.sms_centre_reports.specs.open_reports.Entries.{account_in, account_of}
use Rattle.sms_centre_reports.proofs.open_reports.ReceiptsMoved.{awaited_behind, still_awaited}
use Rattle.sms_centre_reports.specs.sessions.Answering.{bindings_answered_by, bindings_unbound_from, reports_answered_by, reports_due, reports_unbound_from, session_new}
use Rattle.sms_centre_reports.specs.sessions.Awaited.{AreAwaited}
use Rattle.sms_centre_rows.specs.declared.waiting.progress.Progress.{Progress}
use Rattle.sms_centre_rows.specs.waiting.Revisions.{Revised}
use Rattle.sms_centre_rows.specs.waiting.Trying.{due_at, finished}
use Rattle.sms_centre_spec.proofs.forgetting.Runs.{among_so}
use Rattle.sms_centre_spec.proofs.forgetting.Begins.{is_member}
use Rattle.sms_centre_spec.proofs.bodies.Bodies.{alone_found}

-- ---- lists of numbers

left_among : (id n : ℕ) (ids : List ℕ) → Among n (without_id id ids) → Among n ids × ¬ (n ≡ id)
left_among id n [] m = elim m [ ]
left_among id n (x ∷ ids) m = ⊎_elim
    (λ (t : (x == id) ≡ true).
    let k = left_among id n ids (subst (λ (l : List ℕ). Among n l) (cond-true (x == id) (without_id id ids) (x ∷ without_id id ids) t) m) in (inr k.0, k.1))
    (λ (t : (x == id) ≡ false). ⊎_elim
    (λ (e : n ≡ x). (inl e, λ f. let bad : true ≡ false = sym (eq-eqb x id (sym e ∙ f)) ∙ t in absurd cc))
    (λ (k : Among n (without_id id ids)). let l = left_among id n ids k in (inr l.0, l.1))
    (subst (λ (l : List ℕ). Among n l) (cond-false (x == id) (without_id id ids) (x ∷ without_id id ids) t) m))
    (cases_Bool (x == id))

unanswered_is : (id : ℕ) (s : Session) (ss : List Session) → Among s ss → Among id s.unanswered → is_unanswered id ss ≡ true
unanswered_is id s [] m k = elim m [ ]
unanswered_is id s (x ∷ ss) m k = ⊎_elim
    (λ (e : s ≡ x). ap (λ (b : Bool). b || is_unanswered id ss) (is_member id x.unanswered (subst (λ (y : Session). Among id y.unanswered) e k)))
    (λ (l : Among s ss). ap (λ (b : Bool). is_among id x.unanswered || b) (unanswered_is id s ss l k) ∙ or_true (is_among id x.unanswered))
    m
  where
    or_true : (b : Bool) → (b || true) ≡ true
    or_true true = refl
    or_true false = refl

-- ---- the session that serves

named : (name : List ℕ) (o : Originator) → is_account name o ≡ true → account_of o ≡ Some name
named name (Application a) e = ap (λ (n : List ℕ). Some n) ((bytes_eq-Decides a name).0 e)
named name (Handset n) e = absurd cc

serves : (o : Option MessageRow) (s : Session) (ss : List Session) → session_for o ss ≡ Some s → Among s ss × (account_in o ≡ Some s.account)
serves None s ss e = absurd cc
serves (Some m) s ss e =
    let f = fewest_found (receives_for m) s ss e in
    (f.0, named s.account m.originator (and_parts s.receives (is_account s.account m.originator) f.1).1)

-- ---- nothing was sent

pub none_awaited : (ms : List MessageRow) (rows : List ReportRow) (ss : List Session) → ((s : Session) → Among s ss → s.unanswered ≡ []) → AreAwaited ms rows ss
none_awaited ms rows ss none = record {
  each = λ s m id k. absurd (subst (λ (ids : List ℕ). Among id ids) (none s m) k);
  apart = λ s other m n id k l. absurd (subst (λ (ids : List ℕ). Among id ids) (none s m) k);
}

-- ---- one session is as it is now, all others are as before

module _ (ms : List MessageRow) (rows after : List ReportRow) (ss : List Session) (s : Session) (ids : List ℕ) where
  abbrev now : Session
  now = record s { unanswered = ids }

  pub one_changes : ((id : ℕ) → Among id ids → IsAwaited ms after s.account id) → ((x : Session) → Among x ss → ¬ (x.number ≡ s.number) → (id : ℕ) → Among id x.unanswered → IsAwaited ms after x.account id × ¬ Among id ids)
      → ((x y : Session) → Among x ss → Among y ss → (id : ℕ) → Among id x.unanswered → Among id y.unanswered → x.number ≡ y.number)
      → AreAwaited ms after (put session_key (record s { unanswered = ids }) ss)
  one_changes own other apart = record {
    each = λ x m id k. ⊎_elim
        (λ (e : x ≡ now). subst (λ (y : Session). IsAwaited ms after y.account id) (sym e) (own id (subst (λ (y : Session). Among id y.unanswered) e k)))
        (λ (o : Among x ss × ¬ (x.number ≡ s.number)). (other x o.0 o.1 id k).0)
        (among_put session_key x now ss m);
    apart = λ x y m n id k l. ⊎_elim
        (λ (e : x ≡ now). ⊎_elim
        (λ (f : y ≡ now). ap (λ (z : Session). z.number) (e ∙ sym f))
        (λ (o : Among y ss × ¬ (y.number ≡ s.number)). absurd ((other y o.0 o.1 id l).1 (subst (λ (z : Session). Among id z.unanswered) e k)))
        (among_put session_key y now ss n))
        (λ (o : Among x ss × ¬ (x.number ≡ s.number)). ⊎_elim
        (λ (f : y ≡ now). absurd ((other x o.0 o.1 id k).1 (subst (λ (z : Session). Among id z.unanswered) f l)))
        (λ (p : Among y ss × ¬ (y.number ≡ s.number)). apart x y o.0 p.0 id k l)
        (among_put session_key y now ss n))
        (among_put session_key x now ss m);
  }

-- ---- receipts go

module _ (moment : ℕ) (ms : List MessageRow) (rows : List ReportRow) (alone : Alone rows) where
  sent_in : (r : ReportRow) (s : Session) (bindings : Bindings) → Among r rows → waits moment r bindings.sessions ≡ true → session_for (message_at r.id ms) bindings.sessions ≡ Some s → AreAwaited ms rows bindings.sessions
      → AreAwaited ms rows (send_in r.id s bindings).sessions
  sent_in r s bindings m w e k =
      let parts = and_parts (is_open_receipt r) (nat_le r.progress.due moment && not (is_unanswered r.id bindings.sessions)) w in
      let unsent = not-true (is_unanswered r.id bindings.sessions) (and_parts (nat_le r.progress.due moment) (not (is_unanswered r.id bindings.sessions)) parts.1).1 in
      let there = serves (message_at r.id ms) s bindings.sessions e in
      let mine : IsAwaited ms rows s.account r.id = record { report = (r, (alone_found r rows alone m, parts.0)); account_is = there.1 } in
      let nowhere : (x : Session) → Among x bindings.sessions → ¬ Among r.id x.unanswered = λ x n l. let bad : true ≡ false = sym (unanswered_is r.id x bindings.sessions n l) ∙ unsent in absurd cc in
      one_changes ms rows rows bindings.sessions s (s.unanswered ++ r.id ∷ [])
      (λ id n. ⊎_elim
      (λ (l : Among id s.unanswered). k.each s there.0 id l)
      (λ (f : id ≡ r.id). subst (λ (i : ℕ). IsAwaited ms rows s.account i) (sym f) mine)
      (among_end id r.id s.unanswered n))
      (λ x n ne id l. (
        k.each x n id l,
        λ o. ⊎_elim
            (λ (p : Among id s.unanswered). ne (k.apart x s n there.0 id l p))
            (λ (f : id ≡ r.id). nowhere x n (subst (λ (i : ℕ). Among i x.unanswered) f l))
            (among_end id r.id s.unanswered o),
      ))
      k.apart

  sent_to : (r : ReportRow) (o : Option Session) (bindings : Bindings) → Among r rows → waits moment r bindings.sessions ≡ true → session_for (message_at r.id ms) bindings.sessions ≡ o → AreAwaited ms rows bindings.sessions
      → AreAwaited ms rows (send_to r.id o bindings).sessions
  sent_to r None bindings m w e k = k
  sent_to r (Some s) bindings m w e k =
      cond_both (nat_lt (length s.unanswered) window) (send_in r.id s bindings) bindings (λ (d : Bindings). AreAwaited ms rows d.sessions) (λ t. sent_in r s bindings m w e k) (λ t. k)

  pub all_sent : (rs : List ReportRow) (bindings : Bindings) → ((r : ReportRow) → Among r rs → Among r rows) → AreAwaited ms rows bindings.sessions → AreAwaited ms rows (send_all moment ms rs bindings).sessions
  all_sent [] bindings among k = k
  all_sent (r ∷ rs) bindings among k =
      all_sent rs (send moment ms r bindings) (λ x m. among x (inr m))
      (cond_both (waits moment r bindings.sessions) (send_to r.id (session_for (message_at r.id ms) bindings.sessions) bindings) bindings (λ (d : Bindings). AreAwaited ms rows d.sessions)
      (λ w. sent_to r (session_for (message_at r.id ms) bindings.sessions) bindings (among r (inl refl)) w refl k) (λ w. k))

-- ---- an answer

module _ (ms : List MessageRow) (moment : ℕ) (b : Bool) (t : Revised ReportRow) (keys : Rises report_key (reports_of t)) where
  other_awaited : (r : ReportRow) (q : Progress) (name : List ℕ) (id : ℕ) → report_of r.id (reports_of t) ≡ Some r → ¬ (id ≡ r.id) → IsAwaited ms (reports_of t) name id → IsAwaited ms (reports_of (amend_report r q t)) name id
  other_awaited r q name id there ne k = record {
    report = (k.report.0, (amended_other id r q (reports_of t) keys there (λ e. ne (sym e)) ∙ k.report.1.0, k.report.1.1));
    account_is = k.account_is;
  }

  ended_other : (o : Option ReportRow) (n : ℕ) (name : List ℕ) (id : ℕ) → report_of n (reports_of t) ≡ o → ¬ (id ≡ n) → IsAwaited ms (reports_of t) name id → IsAwaited ms (reports_of (receipt_ended b moment o t)) name id
  ended_other None n name id e ne k = k
  ended_other (Some r) n name id e ne k =
      let own = (report_found n r (reports_of t) e).1 in
      other_awaited r (if b then finished r.progress else receipt_tried moment r.progress) name id (subst (λ (i : ℕ). report_of i (reports_of t) ≡ Some r) (sym own) e) (λ f. ne (f ∙ own)) k

  answered_one : (id : ℕ) (s : Session) (ss : List Session) → Among s ss → AreAwaited ms (reports_of t) ss → is_among id s.unanswered ≡ true
      → AreAwaited ms (reports_of (receipt_ended b moment (report_of id (reports_of t)) t)) (put session_key (record s { unanswered = without_id id s.unanswered }) ss)
  answered_one id s ss m k sent =
      one_changes ms (reports_of t) (reports_of (receipt_ended b moment (report_of id (reports_of t)) t)) ss s (without_id id s.unanswered)
      (λ n l. let f = left_among id n s.unanswered l in ended_other (report_of id (reports_of t)) id s.account n refl f.1 (k.each s m n f.0))
      (λ x o ne n l. (
        ended_other (report_of id (reports_of t)) id x.account n refl (λ e. ne (k.apart x s o m id (subst (λ (i : ℕ). Among i x.unanswered) e l) (among_so id s.unanswered sent))) (k.each x o n l),
        λ p. ne (k.apart x s o m n l (left_among id n s.unanswered p).0),
      ))
      k.apart

  pub answers_keep : (id : ℕ) (o : Option Session) (bindings : Bindings) → ((s : Session) → o ≡ Some s → Among s bindings.sessions) → AreAwaited ms (reports_of t) bindings.sessions
      → AreAwaited ms (reports_of (reports_answered_by id b moment o t)) (bindings_answered_by id o bindings).sessions
  answers_keep id None bindings there k = k
  answers_keep id (Some s) bindings there k = ⊎_elim
      (λ (e : is_among id s.unanswered ≡ true).
      subst (λ (u : Revised ReportRow). AreAwaited ms (reports_of u) (bindings_answered_by id (Some s) bindings).sessions) (sym (cond-true (is_among id s.unanswered) (receipt_ended b moment (report_of id (reports_of t)) t) t e))
      (subst (λ (d : Bindings). AreAwaited ms (reports_of (receipt_ended b moment (report_of id (reports_of t)) t)) d.sessions) (sym (cond-true (is_among id s.unanswered) (answered_in id s bindings) bindings e))
      (answered_one id s bindings.sessions (there s refl) k e)))
      (λ (e : is_among id s.unanswered ≡ false).
      subst (λ (u : Revised ReportRow). AreAwaited ms (reports_of u) (bindings_answered_by id (Some s) bindings).sessions) (sym (cond-false (is_among id s.unanswered) (receipt_ended b moment (report_of id (reports_of t)) t) t e))
      (subst (λ (d : Bindings). AreAwaited ms (reports_of t) d.sessions) (sym (cond-false (is_among id s.unanswered) (answered_in id s bindings) bindings e)) k))
      (cases_Bool (is_among id s.unanswered))

-- ---- a session ends

all_behind : (ms : List MessageRow) (moment : ℕ) (mine name : List ℕ) (ids : List ℕ) (id : ℕ) (t : Revised ReportRow) → ((n : ℕ) → Among n ids → IsAwaited ms (reports_of t) mine n) → IsAwaited ms (reports_of t) name id
    → IsAwaited ms (reports_of (all_tried moment ids t)) name id
all_behind ms moment mine name [] id t all k = k
all_behind ms moment mine name (n ∷ ids) id t all k =
    let here = all n (inl refl) in
    all_behind ms moment mine name ids id (receipt_ended false moment (report_of n (reports_of t)) t)
    (λ i m. awaited_behind ms t moment mine mine i n here (all i (inr m))) (awaited_behind ms t moment mine name id n here k)

pub ends_keep : (ms : List MessageRow) (moment : ℕ) (o : Option Session) (bindings : Bindings) (t : Revised ReportRow) → ((s : Session) → o ≡ Some s → Among s bindings.sessions) → AreAwaited ms (reports_of t) bindings.sessions
    → AreAwaited ms (reports_of (reports_unbound_from moment o t)) (bindings_unbound_from o bindings).sessions
ends_keep ms moment None bindings t there k = k
ends_keep ms moment (Some s) bindings t there k = record {
  each = λ x m id l. all_behind ms moment s.account x.account s.unanswered id t (λ n i. k.each s (there s refl) n i) (k.each x (among_without session_key x s.number bindings.sessions m).0 id l);
  apart = λ x y m n id l i. k.apart x y (among_without session_key x s.number bindings.sessions m).0 (among_without session_key y s.number bindings.sessions n).0 id l i;
}

-- ---- a session is bound

due_behind : (ms : List MessageRow) (moment : ℕ) (account name : List ℕ) (id : ℕ) (rs : List ReportRow) (t : Revised ReportRow) → IsAwaited ms (reports_of t) name id → IsAwaited ms (reports_of (receipts_due moment account ms rs t)) name id
due_behind ms moment account name id [] t k = k
due_behind ms moment account name id (r ∷ rs) t k =
    due_behind ms moment account name id rs (if is_put_off moment account r (message_at r.id ms) then amend_report r (due_at moment r.progress) t else t)
    (cond_both (is_put_off moment account r (message_at r.id ms)) (amend_report r (due_at moment r.progress) t) t (λ (u : Revised ReportRow). IsAwaited ms (reports_of u) name id)
    (λ e. still_awaited ms (reports_of t) (report_key r) (due_at moment r.progress) name id (undone (message_at r.id ms) e) k) (λ e. k))
  where
    undone : (o : Option MessageRow) → is_put_off moment account r o ≡ true → r.progress.is_done ≡ false
    undone None e = absurd cc
    undone (Some m) e =
        not-true r.progress.is_done (and_parts (is_receipt r.kind) (not r.progress.is_done) (and_parts (is_open_receipt r) (is_account account m.originator && nat_lt moment r.progress.due) e).0).1

pub bind_keeps : (ms : List MessageRow) (session moment : ℕ) (account : List ℕ) (receives : Bool) (bindings : Bindings) (t : Revised ReportRow) → AreAwaited ms (reports_of t) bindings.sessions
    → AreAwaited ms (reports_of (reports_due account receives moment ms t)) (put_session (session_new session receives account) bindings).sessions
bind_keeps ms session moment account receives bindings t k =
    one_changes ms (reports_of t) (reports_of (reports_due account receives moment ms t)) bindings.sessions (session_new session receives account) []
    (λ id m. elim m [ ])
    (λ x m ne id l. (
      cond_both receives (receipts_due moment account ms (reports_of t) t) t (λ (u : Revised ReportRow). IsAwaited ms (reports_of u) x.account id)
          (λ e. due_behind ms moment account x.account id (reports_of t) t (k.each x m id l)) (λ e. k.each x m id l),
      λ p. elim p [ ],
    ))
    k.apart
