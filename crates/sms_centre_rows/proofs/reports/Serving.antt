-- The session with the fewest unanswered receipts, of those that pass a test.
use Rattle.std.proofs.Common.{◌≡◌, ◌⊎◌, ℕ, ◌<◌, ◌≤◌, List, [], ◌∷◌, Bool, true, false, Option, Some, None, refl, sym, ◌∙◌, ap, subst, inl, inr, ⊎_elim, length, arith}
use Rattle.std.specs.Prelude.{nat_le, nat_lt, if◌then◌else◌}
use Rattle.std.proofs.lemmas.Bool.{cases_Bool, cases_lt, cond-true, cond-false, le-leb, leb-true, lt-ltb}
use Rattle.std.proofs.lemmas.Option.{same_Some}
use Rattle.sms_base.specs.Among.{Among}
use Rattle.sms_centre_rows.specs.declared.messages.message.MessageRow.{MessageRow}
use Rattle.sms_centre_rows.specs.declared.reports.report.ReportRow.{ReportRow}
use Rattle.sms_centre_rows.specs.messages.Messages.{message_at}
use Rattle.sms_centre_rows.specs.reports.Receipts.{Bindings, Session, fewer_unanswered, fewest_unanswered, receives_for, send, send_in, send_to, session_for, waits, window}

-- ---- of two

abbrev is_fewer : Session → Session → Bool
is_fewer s t = nat_le (length s.unanswered) (length t.unanswered)

fewer_is : (s : Session) (o : Option Session) → (fewer_unanswered s o ≡ s) ⊎ (o ≡ Some (fewer_unanswered s o))
fewer_is s None = inl refl
fewer_is s (Some t) = ⊎_elim
    (λ (c : is_fewer s t ≡ true). inl (cond-true (is_fewer s t) s t c))
    (λ (c : is_fewer s t ≡ false). inr (ap (λ (x : Session). Some x) (sym (cond-false (is_fewer s t) s t c))))
    (cases_Bool (is_fewer s t))

no_more : (m n : ℕ) → nat_le m n ≡ false → n ≤ m
no_more m n c = ⊎_elim
    (λ (l : n < m). omega (arith, l))
    (λ (l : m ≤ n). let bad : true ≡ false = sym (le-leb m n l) ∙ c in absurd cc)
    (cases_lt n m)

fewer_left : (s : Session) (o : Option Session) → length (fewer_unanswered s o).unanswered ≤ length s.unanswered
fewer_left s None = omega arith
fewer_left s (Some t) = ⊎_elim
    (λ (c : is_fewer s t ≡ true). subst (λ (x : Session). length x.unanswered ≤ length s.unanswered) (sym (cond-true (is_fewer s t) s t c)) (omega arith))
    (λ (c : is_fewer s t ≡ false).
    subst (λ (x : Session). length x.unanswered ≤ length s.unanswered) (sym (cond-false (is_fewer s t) s t c)) (no_more (length s.unanswered) (length t.unanswered) c))
    (cases_Bool (is_fewer s t))

fewer_right : (s t : Session) → length (fewer_unanswered s (Some t)).unanswered ≤ length t.unanswered
fewer_right s t = ⊎_elim
    (λ (c : is_fewer s t ≡ true).
    subst (λ (x : Session). length x.unanswered ≤ length t.unanswered) (sym (cond-true (is_fewer s t) s t c)) (leb-true (length s.unanswered) (length t.unanswered) c))
    (λ (c : is_fewer s t ≡ false). subst (λ (x : Session). length x.unanswered ≤ length t.unanswered) (sym (cond-false (is_fewer s t) s t c)) (omega arith))
    (cases_Bool (is_fewer s t))

-- ---- of all that pass a test

module _ (test : Session → Bool) where
  abbrev of_two : Session → List Session → Option Session
  of_two x xs = Some (fewer_unanswered x (fewest_unanswered test xs))

  -- it is one of them, and passes
  pub fewest_found : (s : Session) (ss : List Session) → fewest_unanswered test ss ≡ Some s → Among s ss × (test s ≡ true)
  fewest_found s [] e = absurd cc
  fewest_found s (x ∷ xs) e = ⊎_elim
      (λ (t : test x ≡ true).
      let so : fewer_unanswered x (fewest_unanswered test xs) ≡ s =
      same_Some (fewer_unanswered x (fewest_unanswered test xs)) s (sym (cond-true (test x) (of_two x xs) (fewest_unanswered test xs) t) ∙ e) in
      ⊎_elim
      (λ (a : fewer_unanswered x (fewest_unanswered test xs) ≡ x).
      let same : x ≡ s = sym a ∙ so in (inl (sym same), subst (λ (y : Session). test y ≡ true) same t))
      (λ (b : fewest_unanswered test xs ≡ Some (fewer_unanswered x (fewest_unanswered test xs))).
      let f = fewest_found s xs (b ∙ ap (λ (y : Session). Some y) so) in (inr f.0, f.1))
      (fewer_is x (fewest_unanswered test xs)))
      (λ (t : test x ≡ false).
      let f = fewest_found s xs (sym (cond-false (test x) (of_two x xs) (fewest_unanswered test xs) t) ∙ e) in (inr f.0, f.1))
      (cases_Bool (test x))

  -- none that passes has fewer
  pub fewest_least : (s : Session) (ss : List Session) → Among s ss → test s ≡ true → (t : Session) × ((fewest_unanswered test ss ≡ Some t) × (length t.unanswered ≤ length s.unanswered))
  fewest_least s [] m p = elim m [ ]
  fewest_least s (x ∷ xs) m p = ⊎_elim
      (λ (c : test x ≡ true).
      let t : Session = fewer_unanswered x (fewest_unanswered test xs) in (
        t,
        (
          cond-true (test x) (of_two x xs) (fewest_unanswered test xs) c,
          ⊎_elim
              (λ (e : s ≡ x). subst (λ (y : Session). length t.unanswered ≤ length y.unanswered) (sym e) (fewer_left x (fewest_unanswered test xs)))
              (λ (k : Among s xs).
              let f = fewest_least s xs k p in
              let l : length t.unanswered ≤ length f.0.unanswered =
              subst (λ (o : Option Session). length (fewer_unanswered x o).unanswered ≤ length f.0.unanswered) (sym f.1.0) (fewer_right x f.0) in
              omega (arith, l, f.1.1))
              m,
        ),
      ))
      (λ (c : test x ≡ false). ⊎_elim
      (λ (e : s ≡ x). let bad : true ≡ false = sym p ∙ ap test e ∙ c in absurd cc)
      (λ (k : Among s xs).
      let f = fewest_least s xs k p in (f.0, (cond-false (test x) (of_two x xs) (fewest_unanswered test xs) c ∙ f.1.0, f.1.1)))
      m)
      (cases_Bool (test x))

  pub fewest_none : ((s : Session) → test s ≡ false) → (ss : List Session) → fewest_unanswered test ss ≡ None
  fewest_none none [] = refl
  fewest_none none (s ∷ ss) = cond-false (test s) (of_two s ss) (fewest_unanswered test ss) (none s) ∙ fewest_none none ss

-- two tests that agree choose the same
pub fewest_same : (test other : Session → Bool) → ((s : Session) → test s ≡ other s) → (ss : List Session) → fewest_unanswered test ss ≡ fewest_unanswered other ss
fewest_same test other same [] = refl
fewest_same test other same (s ∷ ss) =
    ap (λ (b : Bool). if b then Some (fewer_unanswered s (fewest_unanswered test ss)) else fewest_unanswered test ss) (same s)
    ∙ ap (λ (o : Option Session). if other s then Some (fewer_unanswered s o) else o) (fewest_same test other same ss)

-- ---- a receipt that waits is sent while one of its sessions has room

pub sent_somewhere : (moment : ℕ) (ms : List MessageRow) (r : ReportRow) (m : MessageRow) (s : Session) (bindings : Bindings) → waits moment r bindings.sessions ≡ true → message_at r.id ms ≡ Some m
    → Among s bindings.sessions → receives_for m s ≡ true → length s.unanswered < 10
    → (t : Session) × ((Among t bindings.sessions × (receives_for m t ≡ true)) × ((length t.unanswered ≤ length s.unanswered) × (send moment ms r bindings ≡ send_in r.id t bindings)))
sent_somewhere moment ms r m s bindings waiting there among receives few =
    let f = fewest_least (receives_for m) s bindings.sessions among receives in
    let room : length f.0.unanswered < 10 = omega (arith, f.1.1, few) in (
      f.0,
      (
        fewest_found (receives_for m) f.0 bindings.sessions f.1.0,
        (
          f.1.1,
          cond-true (waits moment r bindings.sessions) (send_to r.id (session_for (message_at r.id ms) bindings.sessions) bindings) bindings waiting
              ∙ ap (λ (o : Option MessageRow). send_to r.id (session_for o bindings.sessions) bindings) there
              ∙ ap (λ (o : Option Session). send_to r.id o bindings) f.1.0
              ∙ cond-true (nat_lt (length f.0.unanswered) window) (send_in r.id f.0 bindings) bindings (lt-ltb (length f.0.unanswered) window room),
        ),
      ),
    )
