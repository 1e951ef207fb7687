-- Receipts go one after another.
use Rattle.std.proofs.Common.{◌≡◌, ℕ, ◌+◌, ◌<◌, List, [], ◌∷◌, ◌++◌, Bool, true, false, Option, Some, None, refl, sym, ◌∙◌, ap, ⊎_elim, length}
use Rattle.std.specs.Prelude.{◌&&◌, nat_lt}
use Rattle.std.proofs.lemmas.Bool.{and_from, cases_Bool, cond-true, cond-false, lt-ltb}
use Rattle.sms_rows.specs.index.First.{first_such}
use Rattle.std.specs.Option.{option_map}
use Rattle.std.proofs.lemmas.Option.{same_Some}
use Rattle.sms_rows.specs.table.Table.{Rises, row_at, rows_from}
use Rattle.sms_rows.proofs.table.Tables.{among_found, found_key}
use Rattle.sms_centre_rows.specs.declared.messages.message.MessageRow.{MessageRow}
use Rattle.sms_centre_rows.specs.declared.reports.report.ReportRow.{ReportRow}
use Rattle.sms_centre_rows.specs.reports.Receipts.{Bindings, Session, put_session, send_all, send_in, session_key, window}
use Rattle.sms_centre_rows.specs.declared.reports.delivery.Delivery.{Delivery}
use Rattle.sms_centre_rows.specs.reports.Reports.{report_key, reports_of}
use Rattle.sms_centre_reports.specs.open_reports.OpenReportsDraft.{OpenReportsDraftOf, DraftRepresents}
use Rattle.sms_centre_reports.specs.open_reports.Serving.{Next, is_ready, is_session, next_among, next_from, next_in, serving}
use Rattle.sms_centre_reports.specs.open_reports.OpenReports.{AccountOf, receipts_at}
use Rattle.sms_centre_reports.specs.declared.open_reports.entry.ReceiptEntry.{ReceiptEntry}
use Rattle.sms_centre_reports.proofs.open_reports.Amended.{from_first}
use Rattle.sms_centre_reports.proofs.open_reports.Serving.{next_is, sends_end, sends_on}
use Rattle.sms_centre_reports.specs.declared.sessions.sending.ReceiptToSend.{ReceiptToSend}
use Rattle.sms_centre_reports.specs.sessions.SessionReceipts.{receipt_to_send}
use Rattle.sms_centre_rows.specs.waiting.Revisions.{Revised}

-- it goes in the session of some next
some_next : (o : Option Next) (g : ReceiptToSend) → Some g ≡ option_map receipt_to_send o → (n : Next) × ((o ≡ Some n) × (g ≡ receipt_to_send n))
some_next None g e = absurd cc
some_next (Some n) g e = (n, (refl, same_Some g (receipt_to_send n) e))

none_next : (o : Option Next) → None ≡ option_map receipt_to_send o → o ≡ None
none_next None e = refl
none_next (Some n) e = absurd cc

module _ (moment : ℕ) (ms : List MessageRow) (p : OpenReportsDraftOf) (t : Revised ReportRow) (tells : DraftRepresents ms p t) where
  -- what is sent from a place on
  abbrev pub rest : ℕ → Bindings → Bindings
  rest first bindings = send_all moment ms (rows_from report_key first (reports_of t)) bindings

  pub rest_all : (bindings : Bindings) → rest 0 bindings ≡ send_all moment ms (reports_of t) bindings
  rest_all bindings = ap (λ (rs : List ReportRow). send_all moment ms rs bindings) (from_first (reports_of t))

  pub rest_ends : (first : ℕ) (bindings : Bindings) → None ≡ option_map receipt_to_send (next_among first moment bindings.sessions p.current.accounts bindings.sessions) → rest first bindings ≡ bindings
  rest_ends first bindings e =
      sends_end first moment ms p.current (reports_of t) tells.current bindings.sessions bindings refl (none_next (next_among first moment bindings.sessions p.current.accounts bindings.sessions) e)

  pub rest_on : (first : ℕ) (bindings after : Bindings) (g : ReceiptToSend) → Rises session_key bindings.sessions → Some g ≡ option_map receipt_to_send (next_among first moment bindings.sessions p.current.accounts bindings.sessions)
      → ((s : Session) → row_at session_key g.session bindings.sessions ≡ Some s → after ≡ send_in g.receipt.id s bindings) → rest (g.receipt.place + 1) after ≡ rest first bindings
  rest_on first bindings after g rises e sends =
      let some = some_next (next_among first moment bindings.sessions p.current.accounts bindings.sessions) g e in
      let n : Next = some.0 in
      let there = next_is first moment ms p.current (reports_of t) tells.current bindings.sessions n bindings.sessions some.1.0 in
      let found : row_at session_key g.session bindings.sessions ≡ Some n.session = ap (λ (x : ReceiptToSend). row_at session_key x.session bindings.sessions) some.1.1 ∙ among_found session_key n.session bindings.sessions rises there.0 in
      ap (λ (x : Bindings). rest (g.receipt.place + 1) x) (sends n.session found)
      ∙ ap (λ (x : ReceiptToSend). rest (x.receipt.place + 1) (send_in x.receipt.id n.session bindings)) some.1.1
      ∙ sym (sends_on first moment ms p.current (reports_of t) tells.current bindings.sessions bindings n refl rises some.1.0)

-- ---- what goes first in a session

module _ (first moment : ℕ) (ss : List Session) (accounts : List AccountOf) (s : Session) where
  abbrev here : Option ReceiptEntry
  here = first_such (is_ready first moment ss) (receipts_at s.account accounts)

  abbrev goes : Bool
  goes = is_session s (serving s.account ss) && nat_lt (length s.unanswered) window

  pub one_first : (number : ℕ) (e : ReceiptEntry) → is_session s (serving s.account ss) ≡ true → length s.unanswered < 10 → number ≡ s.number → Some e ≡ first_such (is_ready first moment ss) (receipts_at s.account accounts)
      → Some (record { session = number; receipt = e }) ≡ option_map receipt_to_send (next_from s (next_in first moment ss accounts s))
  one_first number e serves room own is =
      ap (λ (n : ℕ). Some (record { session = n; receipt = e })) own
      ∙ ap (λ (o : Option ReceiptEntry). option_map receipt_to_send (next_from s o))
      (is ∙ sym (cond-true goes here None (and_from (is_session s (serving s.account ss)) (nat_lt (length s.unanswered) window) serves (lt-ltb (length s.unanswered) window room))))

  pub none_first : None ≡ first_such (is_ready first moment ss) (receipts_at s.account accounts) → None ≡ option_map receipt_to_send (next_from s (next_in first moment ss accounts s))
  none_first is = ap (λ (o : Option ReceiptEntry). option_map receipt_to_send (next_from s o)) (⊎_elim
      (λ (t : goes ≡ true). is ∙ sym (cond-true goes here None t))
      (λ (t : goes ≡ false). sym (cond-false goes here None t))
      (cases_Bool goes))

-- ---- it goes

pub sent_so : (bindings : Bindings) (sessions : List Session) (before news : List Delivery) (seat sent s : Session) (number id : ℕ) → Some seat ≡ row_at session_key number bindings.sessions → row_at session_key number bindings.sessions ≡ Some s
    → sent ≡ record seat { unanswered = seat.unanswered ++ id ∷ [] } → record { sessions = sessions; deliveries = before } ≡ put_session sent bindings → news ≡ before ++ record { session = number; id = id } ∷ []
    → record { sessions = sessions; deliveries = news } ≡ send_in id s bindings
sent_so bindings sessions before news seat sent s number id found there is puts pushes =
    let same : seat ≡ s = same_Some seat s (found ∙ there) in
    let own : number ≡ s.number = sym (found_key session_key number s bindings.sessions there) in
    let so : sent ≡ record s { unanswered = s.unanswered ++ id ∷ [] } = is ∙ ap (λ (x : Session). record x { unanswered = x.unanswered ++ id ∷ [] }) same in
    ap (λ (ds : List Delivery). record { sessions = sessions; deliveries = ds }) (pushes ∙ ap (λ (n : ℕ). before ++ record { session = n; id = id } ∷ []) own)
    ∙ ap (λ (d : Bindings). record { sessions = d.sessions; deliveries = d.deliveries ++ record { session = s.number; id = id } ∷ [] }) (puts ∙ ap (λ (x : Session). put_session x bindings) so)
