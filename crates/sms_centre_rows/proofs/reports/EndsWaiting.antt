-- What waits where a message ends, and where one is new.
use Rattle.std.proofs.Common.{◌≡◌, ℕ, ◌<◌, List, Option, Some, None, false, refl, sym, ◌∙◌, ap, ⊎_elim, arith}
use Rattle.std.specs.Prelude.{◌&&◌, not, if◌then◌else◌}
use Rattle.std.proofs.lemmas.Bool.{cases_eq, cond-false}
use Rattle.sms_base.proofs.Bools.{and_false}
use Rattle.sms_base.specs.declared.final_state.FinalState.{FinalState}
use Rattle.sms_rows.specs.table.Keys.{pair_key}
use Rattle.sms_rows.specs.table.Table.{put}
use Rattle.sms_rows.proofs.table.Tables.{found_among, found_key, row_at_put, row_at_put_other}
use Rattle.sms_centre_rows.specs.declared.messages.message.MessageRow.{MessageRow}
use Rattle.sms_centre_rows.specs.declared.messages.part.PartRow.{PartRow}
use Rattle.sms_centre_rows.specs.declared.messages.priority.PriorityRow.{PriorityRow}
use Rattle.sms_centre_rows.specs.messages.Messages.{ended, message_at, message_key, part_at, part_key, priority_in, priority_key, priority_of}
use Rattle.sms_centre_rows.specs.messages.OpenParts.{Numbered, part_queued, part_wait, waits_for}
use Rattle.sms_centre_rows.specs.declared.reports.report.ReportRow.{ReportRow}
use Rattle.sms_centre_rows.specs.reports.Reports.{report_of}
use Rattle.sms_centre_rows.specs.reports.Waiting.{Alone, report_queued, report_wait, reports_to, waiting_for}
use Rattle.sms_centre_rows.proofs.reports.AllWaiting.{report_found}
use Rattle.sms_centre_rows.proofs.reports.FewWaiting.{all_few}
use Rattle.sms_centre_rows.proofs.reports.WaitingChanges.{message_ends, nothing_changes}
use Rattle.sms_centre_rows.specs.waiting.Waiting.{withdrawn}

-- what waits of a part goes by its message's row and its priority
wait_alike : (h : List ℕ) (ms others : List MessageRow) (qs priorities : List PriorityRow) (p : PartRow) → message_at p.id others ≡ message_at p.id ms → priority_of p.id priorities ≡ priority_of p.id qs
    → part_wait h others priorities (Some p) ≡ part_wait h ms qs (Some p)
wait_alike h ms others qs priorities p e f =
    ap (λ (o : Option MessageRow). if waits_for h p o then Some (part_queued p priorities) else None) e
    ∙ ap (λ (n : ℕ). if waits_for h p (message_at p.id ms) then Some (record { id = p.id; number = p.number; reference = p.reference; priority = n; due = p.progress.due }) else None) f

report_alike : (h : List ℕ) (ms others : List MessageRow) (r : ReportRow) → message_at r.id others ≡ message_at r.id ms → report_wait h others (Some r) ≡ report_wait h ms (Some r)
report_alike h ms others r e = ap (λ (o : Option MessageRow). if reports_to h r o then Some (report_queued r) else None) e

-- the part under a key is of that message and has that number
pub part_is : (ps : List PartRow) (id n : ℕ) (p : PartRow) → Numbered ps → n < 256 → part_at id n ps ≡ Some p → p.id ≡ id
part_is ps id n p numbered small e =
    let k : pair_key p.id p.number ≡ pair_key id n = found_key part_key (pair_key id n) p ps e in
    let few = (numbered.numbers p (found_among part_key (pair_key id n) p ps e)).1 in
    omega (arith, k, few, small)

-- ---- a message ends

module _ (h : List ℕ) (ms : List MessageRow) (qs : List PriorityRow) (ps : List PartRow) (rs : List ReportRow) (m : MessageRow) (state : FinalState) (moment : ℕ) where
  after : List MessageRow
  after = put message_key (ended state moment m) ms

  at_own : message_at m.id (put message_key (ended state moment m) ms) ≡ Some (ended state moment m)
  at_own = row_at_put message_key (ended state moment m) ms

  at_other : (id : ℕ) → ¬ (m.id ≡ id) → message_at id (put message_key (ended state moment m) ms) ≡ message_at id ms
  at_other id ne = row_at_put_other message_key id (ended state moment m) ms ne

  own_parts : Numbered ps → (n : ℕ) → 0 < n → n < 256 → part_wait h (put message_key (ended state moment m) ms) qs (part_at m.id n ps) ≡ None
  own_parts numbered n some small = by (part_at m.id n ps) refl where
    by : (o : Option PartRow) → part_at m.id n ps ≡ o → part_wait h (put message_key (ended state moment m) ms) qs o ≡ None
    by None e = refl
    by (Some p) e =
        let id : p.id ≡ m.id = part_is ps m.id n p numbered small e in
        let row : message_at p.id (put message_key (ended state moment m) ms) ≡ Some (ended state moment m) = ap (λ (k : ℕ). message_at k (put message_key (ended state moment m) ms)) id ∙ at_own in
        ap (λ (o : Option MessageRow). if waits_for h p o then Some (part_queued p qs) else None) row
        ∙ cond-false (not p.progress.is_done && false) (Some (part_queued p qs)) None (and_false (not p.progress.is_done))

  other_parts : Numbered ps → (i n : ℕ) → n < 256 → ¬ (i ≡ m.id) → part_wait h (put message_key (ended state moment m) ms) qs (part_at i n ps) ≡ part_wait h ms qs (part_at i n ps)
  other_parts numbered i n small ne = by (part_at i n ps) refl where
    by : (o : Option PartRow) → part_at i n ps ≡ o → part_wait h (put message_key (ended state moment m) ms) qs o ≡ part_wait h ms qs o
    by None e = refl
    by (Some p) e = let id : p.id ≡ i = part_is ps i n p numbered small e in wait_alike h ms (put message_key (ended state moment m) ms) qs qs p (at_other p.id (λ q. ne (sym id ∙ sym q))) refl

  same_reports : message_at m.id ms ≡ Some m → (i : ℕ) → report_wait h (put message_key (ended state moment m) ms) (report_of i rs) ≡ report_wait h ms (report_of i rs)
  same_reports there i = by (report_of i rs) where
    by : (o : Option ReportRow) → report_wait h (put message_key (ended state moment m) ms) o ≡ report_wait h ms o
    by None = refl
    by (Some r) = ⊎_elim
        (λ (e : m.id ≡ r.id).
        let now : message_at r.id (put message_key (ended state moment m) ms) ≡ Some (ended state moment m) = ap (λ (k : ℕ). message_at k (put message_key (ended state moment m) ms)) (sym e) ∙ at_own in
        let was : message_at r.id ms ≡ Some m = ap (λ (k : ℕ). message_at k ms) (sym e) ∙ there in
        ap (λ (o : Option MessageRow). if reports_to h r o then Some (report_queued r) else None) now
        ∙ ap (λ (o : Option MessageRow). if reports_to h r o then Some (report_queued r) else None) (sym was))
        (λ (e : m.id ≡ r.id → ⊥). report_alike h ms (put message_key (ended state moment m) ms) r (at_other r.id e))
        (cases_eq m.id r.id)

  pub end_waits : Numbered ps → Alone rs → message_at m.id ms ≡ Some m → waiting_for h (put message_key (ended state moment m) ms) qs ps rs ≡ withdrawn m.id (waiting_for h ms qs ps rs)
  end_waits numbered alone there =
      message_ends h ms (put message_key (ended state moment m) ms) qs ps rs m.id numbered alone (own_parts numbered) (λ i n small ne. other_parts numbered i n small ne) (same_reports there) (all_few h ms qs ps rs numbered)

-- ---- a message is new: no part and no report is of it

module _ (h : List ℕ) (ms : List MessageRow) (qs : List PriorityRow) (ps : List PartRow) (rs : List ReportRow) (m : MessageRow) (q : PriorityRow) where
  new_parts : Numbered ps → q.id ≡ m.id → ((n : ℕ) → part_at m.id n ps ≡ None) → (id n : ℕ) → 0 < n → n < 256
      → part_wait h (put message_key m ms) (put priority_key q qs) (part_at id n ps) ≡ part_wait h ms qs (part_at id n ps)
  new_parts numbered own none id n some small = by (part_at id n ps) refl where
    by : (o : Option PartRow) → part_at id n ps ≡ o → part_wait h (put message_key m ms) (put priority_key q qs) o ≡ part_wait h ms qs o
    by None e = refl
    by (Some p) e =
        let is : p.id ≡ id = part_is ps id n p numbered small e in
        let ne : ¬ (m.id ≡ p.id) = λ f. let bad : None ≡ Some p = sym (none n) ∙ ap (λ (k : ℕ). part_at k n ps) (f ∙ is) ∙ e in absurd cc in
        wait_alike h ms (put message_key m ms) qs (put priority_key q qs) p
        (row_at_put_other message_key p.id m ms ne)
        (ap (λ (o : Option PriorityRow). priority_in o) (row_at_put_other priority_key p.id q qs (λ f. ne (sym own ∙ f))))

  new_reports : report_of m.id rs ≡ None → (id : ℕ) → report_wait h (put message_key m ms) (report_of id rs) ≡ report_wait h ms (report_of id rs)
  new_reports none id = by (report_of id rs) refl where
    by : (o : Option ReportRow) → report_of id rs ≡ o → report_wait h (put message_key m ms) o ≡ report_wait h ms o
    by None e = refl
    by (Some r) e =
        let is : r.id ≡ id = (report_found id r rs e).1 in
        let ne : ¬ (m.id ≡ r.id) = λ f. let bad : None ≡ Some r = sym none ∙ ap (λ (k : ℕ). report_of k rs) (f ∙ is) ∙ e in absurd cc in
        report_alike h ms (put message_key m ms) r (row_at_put_other message_key r.id m ms ne)

  pub new_waits : Numbered ps → Alone rs → q.id ≡ m.id → ((n : ℕ) → part_at m.id n ps ≡ None) → report_of m.id rs ≡ None
      → waiting_for h (put message_key m ms) (put priority_key q qs) ps rs ≡ waiting_for h ms qs ps rs
  new_waits numbered alone own none free =
      nothing_changes h ms (put message_key m ms) qs (put priority_key q qs) ps rs numbered alone (new_parts numbered own none) (new_reports free)
