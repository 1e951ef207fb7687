-- The moment of a centre that recovers is the same without messages that were submitted, and reports that were made, no later than
-- ones that stay.
use Rattle.std.proofs.Common.{◌≡◌, ℕ, ◌+◌, ◌<◌, ◌≤◌, List, [], ◌∷◌, Bool, true, false, refl, sym, ◌∙◌, ap, inl, inr, ⊎_elim, arith}
use Rattle.std.specs.Prelude.{◌⊎◌, max}
use Rattle.std.proofs.lemmas.Bool.{cases_Bool}
use Rattle.sms_base.specs.Among.{Among}
use Rattle.sms_centre_rows.specs.declared.messages.message.MessageRow.{MessageRow}
use Rattle.sms_centre_rows.specs.messages.Messages.{id_after, message_key, next_id}
use Rattle.sms_centre_rows.specs.declared.reports.report.ReportRow.{ReportRow}
use Rattle.sms_centre_rows.specs.reports.Reports.{next_place, place_after}
use Rattle.sms_centre_spec.specs.declared.rows.Rows.{Rows}
use Rattle.sms_centre_spec.specs.CentreEvent.{after_messages, after_references, after_reports, moment_of}
use Rattle.sms_centre_spec.specs.forgetting.Forgetting.{AreNoLater, MayGo, kept, last_made, last_submitted, report_id, rows_without}
use Rattle.sms_centre_spec.proofs.forgetting.Kept.{among_kept, kept_among}

-- ---- the latest of a list

module _ {A : Type 0} (time : A → ℕ) where
  abbrev latest : ℕ → List A → ℕ
  latest moment [] = moment
  latest moment (x ∷ xs) = latest (max moment (time x)) xs

  first_below : (a : ℕ) (xs : List A) → a ≤ latest a xs
  first_below a [] = omega arith
  first_below a (x ∷ xs) = let l = first_below (max a (time x)) xs in omega (arith, l)

  each_below : (a : ℕ) (x : A) (xs : List A) → Among x xs → time x ≤ latest a xs
  each_below a x [] among = absurd among
  each_below a x (y ∷ ys) among = ⊎_elim
      (λ (e : x ≡ y). let l = first_below (max a (time y)) ys in let t : time x ≡ time y = ap time e in omega (arith, l, t))
      (λ (b : Among x ys). each_below (max a (time y)) x ys b)
      among

  all_below : (n a : ℕ) (xs : List A) → a ≤ n → ((x : A) → Among x xs → time x ≤ n) → latest a xs ≤ n
  all_below n a [] l each = l
  all_below n a (x ∷ xs) l each =
      let t = each x (inl refl) in all_below n (max a (time x)) xs (omega (arith, l, t)) (λ y b. each y (inr b))

  module _ (id : A → ℕ) (goes : ℕ → Bool) where
    -- one that stays is no earlier
    abbrev Covered : List A → A → Type 0
    Covered xs x = (w : A) × (Among w xs × ((goes (id w) ≡ false) × (time x ≤ time w)))

    same_latest : (a : ℕ) (xs : List A) → ((x : A) → Among x xs → goes (id x) ≡ true → Covered xs x) → latest a (kept id goes xs) ≡ latest a xs
    same_latest a xs covered =
        let few : ℕ = latest a (kept id goes xs) in
        let low : few ≤ latest a xs = all_below (latest a xs) a (kept id goes xs) (first_below a xs) (λ x b. each_below a x xs (kept_among id goes x xs b).0) in
        let high : latest a xs ≤ few = all_below few a xs (first_below a (kept id goes xs)) (λ x b. each x b) in
        omega (arith, low, high)
      where
        each : (x : A) → Among x xs → time x ≤ latest a (kept id goes xs)
        each x b = ⊎_elim
            (λ (g : goes (id x) ≡ true).
            let w = covered x b g in
            let stays = each_below a w.0 (kept id goes xs) (among_kept id goes w.0 xs w.1.0 w.1.1.0) in
            let l = w.1.1.1 in omega (arith, stays, l))
            (λ (g : goes (id x) ≡ false). each_below a x (kept id goes xs) (among_kept id goes x xs b g))
            (cases_Bool (goes (id x)))

-- ---- messages and reports

abbrev submitted_of : MessageRow → ℕ
submitted_of m = m.submitted

abbrev made_of : ReportRow → ℕ
made_of r = r.made

messages_latest : (a : ℕ) (ms : List MessageRow) → after_messages a ms ≡ latest submitted_of a ms
messages_latest a [] = refl
messages_latest a (m ∷ ms) = messages_latest (max a m.submitted) ms

reports_latest : (a : ℕ) (rs : List ReportRow) → after_reports a rs ≡ latest made_of a rs
reports_latest a [] = refl
reports_latest a (r ∷ rs) = reports_latest (max a r.made) rs

record LastMessage (n k : ℕ) (ms : List MessageRow) : Type 0 where
  row : MessageRow
  among : Among row ms
  number : row.id + 1 ≡ id_after n ms
  time : row.submitted ≡ last_submitted k ms

last_message : (n k : ℕ) (m : MessageRow) (ms : List MessageRow) → LastMessage n k (m ∷ ms)
last_message n k m [] = record { row = m; among = inl refl; number = refl; time = refl }
last_message n k m (x ∷ xs) =
    let l = last_message (m.id + 1) m.submitted x xs in record { row = l.row; among = inr l.among; number = l.number; time = l.time }

record LastReport (n k : ℕ) (rs : List ReportRow) : Type 0 where
  row : ReportRow
  among : Among row rs
  number : row.place + 1 ≡ place_after n rs
  time : row.made ≡ last_made k rs

last_report : (n k : ℕ) (r : ReportRow) (rs : List ReportRow) → LastReport n k (r ∷ rs)
last_report n k r [] = record { row = r; among = inl refl; number = refl; time = refl }
last_report n k r (x ∷ xs) =
    let l = last_report (r.place + 1) r.made x xs in record { row = l.row; among = inr l.among; number = l.number; time = l.time }

some_message : (m : MessageRow) (ms : List MessageRow) → Among m ms → LastMessage 1 0 ms
some_message m [] among = absurd among
some_message m (x ∷ xs) among = last_message 1 0 x xs

some_report : (r : ReportRow) (rs : List ReportRow) → Among r rs → LastReport 1 0 rs
some_report r [] among = absurd among
some_report r (x ∷ xs) among = last_report 1 0 x xs

module _ (goes : ℕ → Bool) (rows : Rows) (may : MayGo goes rows) (no_later : AreNoLater goes rows) where
  message_stays : (l : LastMessage 1 0 rows.messages) → goes l.row.id ≡ false
  message_stays l = ⊎_elim
      (λ (t : goes l.row.id ≡ true).
      let high : l.row.id + 1 < next_id rows.messages = may.id l.row l.among t in
      let n : l.row.id + 1 ≡ next_id rows.messages = l.number in absurd (omega (arith, high, n)))
      (λ (t : goes l.row.id ≡ false). t)
      (cases_Bool (goes l.row.id))

  message_covered : (m : MessageRow) → Among m rows.messages → goes m.id ≡ true → Covered submitted_of message_key goes rows.messages m
  message_covered m b g =
      let l = some_message m rows.messages b in
      let low : m.submitted ≤ last_submitted 0 rows.messages = no_later.submitted m b g in
      let time : l.row.submitted ≡ last_submitted 0 rows.messages = l.time in
      (l.row, (l.among, (message_stays l, omega (arith, low, time))))

  messages_same : (a : ℕ) → after_messages a (kept message_key goes rows.messages) ≡ after_messages a rows.messages
  messages_same a =
      messages_latest a (kept message_key goes rows.messages) ∙ same_latest submitted_of message_key goes a rows.messages message_covered ∙ sym (messages_latest a rows.messages)

  report_stays : (l : LastReport 1 0 rows.reports) → goes l.row.id ≡ false
  report_stays l = ⊎_elim
      (λ (t : goes l.row.id ≡ true).
      let high : l.row.place + 1 < next_place rows.reports = may.place l.row l.among t in
      let n : l.row.place + 1 ≡ next_place rows.reports = l.number in absurd (omega (arith, high, n)))
      (λ (t : goes l.row.id ≡ false). t)
      (cases_Bool (goes l.row.id))

  report_covered : (r : ReportRow) → Among r rows.reports → goes r.id ≡ true → Covered made_of report_id goes rows.reports r
  report_covered r b g =
      let l = some_report r rows.reports b in
      let low : r.made ≤ last_made 0 rows.reports = no_later.made r b g in
      let time : l.row.made ≡ last_made 0 rows.reports = l.time in
      (l.row, (l.among, (report_stays l, omega (arith, low, time))))

  reports_same : (a : ℕ) → after_reports a (kept report_id goes rows.reports) ≡ after_reports a rows.reports
  reports_same a =
      reports_latest a (kept report_id goes rows.reports) ∙ same_latest made_of report_id goes a rows.reports report_covered ∙ sym (reports_latest a rows.reports)

  pub moment_same : moment_of (rows_without goes rows) ≡ moment_of rows
  moment_same =
      ap (λ (n : ℕ). after_reports (after_references n rows.references) (kept report_id goes rows.reports)) (messages_same rows.setup.start)
      ∙ reports_same (after_references (after_messages rows.setup.start rows.messages) rows.references)
