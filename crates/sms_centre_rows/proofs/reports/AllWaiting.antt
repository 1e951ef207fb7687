-- All that waits for a handset, looked up: a part's queued part is that of the part under its key, a status report's that of the report of
-- its message.
use Rattle.std.proofs.Common.{◌≡◌, ℕ, ◌<◌, List, [], ◌∷◌, Option, Some, None, true, false, refl, sym, ◌∙◌, ap, subst, inl, inr, ⊎_elim, eq-eqb, arith}
use Rattle.std.specs.Prelude.{◌==◌}
use Rattle.std.proofs.lemmas.Bool.{cases_Bool, cases_eq, cond-true, cond-false, ne_eqb}
use Rattle.sms_base.specs.Among.{Among}
use Rattle.sms_rows.specs.table.Keys.{pair_key}
use Rattle.sms_rows.specs.table.Table.{Rises, put, row_at}
use Rattle.sms_rows.proofs.table.Tables.{found_among, found_key, rises_put, row_at_put, row_at_put_other}
use Rattle.sms_centre_rows.specs.declared.messages.message.MessageRow.{MessageRow}
use Rattle.sms_centre_rows.specs.declared.messages.part.PartRow.{PartRow}
use Rattle.sms_centre_rows.specs.declared.messages.priority.PriorityRow.{PriorityRow}
use Rattle.sms_centre_rows.specs.messages.Messages.{message_at, part_at, part_key}
use Rattle.sms_centre_rows.specs.messages.OpenParts.{part_wait, parts_waiting}
use Rattle.sms_centre_rows.proofs.messages.PartsWaiting.{rises_waiting, waiting_at}
use Rattle.sms_centre_rows.specs.declared.reports.report.ReportRow.{ReportRow}
use Rattle.sms_centre_rows.specs.reports.Reports.{report_of}
use Rattle.sms_centre_rows.specs.messages.OpenParts.{Numbered}
use Rattle.sms_centre_rows.specs.reports.Waiting.{Alone, report_queued, report_wait, reports_to, waiting_for, with_reports}
use Rattle.sms_centre_rows.specs.declared.waiting.queued_part.QueuedPart.{QueuedPart}
use Rattle.sms_centre_rows.specs.waiting.Keys.{queued_key}

-- ---- the report of a message

pub report_here : (id : ℕ) (r : ReportRow) (rs : List ReportRow) → r.id ≡ id → report_of id (r ∷ rs) ≡ Some r
report_here id r rs e = cond-true (r.id == id) (Some r) (report_of id rs) (eq-eqb r.id id e)

pub report_behind : (id : ℕ) (r : ReportRow) (rs : List ReportRow) → ¬ (r.id ≡ id) → report_of id (r ∷ rs) ≡ report_of id rs
report_behind id r rs ne = cond-false (r.id == id) (Some r) (report_of id rs) (ne_eqb r.id id ne)

pub report_found : (id : ℕ) (r : ReportRow) (rs : List ReportRow) → report_of id rs ≡ Some r → Among r rs × (r.id ≡ id)
report_found id r [] e = absurd cc
report_found id r (s ∷ rs) e = ⊎_elim
    (λ (q : s.id ≡ id). let same : Some s ≡ Some r = sym (report_here id s rs q) ∙ e in let p : s ≡ r = cc in (inl (sym p), ap (λ (x : ReportRow). x.id) (sym p) ∙ q))
    (λ (q : s.id ≡ id → ⊥). let f = report_found id r rs (sym (report_behind id s rs q) ∙ e) in (inr f.0, f.1))
    (cases_eq s.id id)

module _ (h : List ℕ) (ms : List MessageRow) where
  -- the list where the first report waits, and where it doesn't
  report_first : (r : ReportRow) (rs : List ReportRow) (ls : List QueuedPart) → reports_to h r (message_at r.id ms) ≡ true → with_reports h ms (r ∷ rs) ls ≡ put queued_key (report_queued r) (with_reports h ms rs ls)
  report_first r rs ls t = cond-true (reports_to h r (message_at r.id ms)) (put queued_key (report_queued r) (with_reports h ms rs ls)) (with_reports h ms rs ls) t

  report_rest : (r : ReportRow) (rs : List ReportRow) (ls : List QueuedPart) → reports_to h r (message_at r.id ms) ≡ false → with_reports h ms (r ∷ rs) ls ≡ with_reports h ms rs ls
  report_rest r rs ls t = cond-false (reports_to h r (message_at r.id ms)) (put queued_key (report_queued r) (with_reports h ms rs ls)) (with_reports h ms rs ls) t

  pub rises_with : (rs : List ReportRow) (ls : List QueuedPart) → Rises queued_key ls → Rises queued_key (with_reports h ms rs ls)
  rises_with [] ls rises = rises
  rises_with (r ∷ rs) ls rises = ⊎_elim
      (λ (t : reports_to h r (message_at r.id ms) ≡ true). subst (λ (l : List QueuedPart). Rises queued_key l) (sym (report_first r rs ls t)) (rises_put queued_key (report_queued r) (with_reports h ms rs ls) (rises_with rs ls rises)))
      (λ (t : reports_to h r (message_at r.id ms) ≡ false). subst (λ (l : List QueuedPart). Rises queued_key l) (sym (report_rest r rs ls t)) (rises_with rs ls rises))
      (cases_Bool (reports_to h r (message_at r.id ms)))

  -- a part is found as among the parts
  parts_with : (id n : ℕ) (rs : List ReportRow) (ls : List QueuedPart) → 0 < n → n < 256 → row_at queued_key (pair_key id n) (with_reports h ms rs ls) ≡ row_at queued_key (pair_key id n) ls
  parts_with id n [] ls some small = refl
  parts_with id n (r ∷ rs) ls some small = ⊎_elim
      (λ (t : reports_to h r (message_at r.id ms) ≡ true).
      ap (λ (l : List QueuedPart). row_at queued_key (pair_key id n) l) (report_first r rs ls t)
      ∙ row_at_put_other queued_key (pair_key id n) (report_queued r) (with_reports h ms rs ls) (λ e. absurd (omega (arith, e, some, small)))
      ∙ parts_with id n rs ls some small)
      (λ (t : reports_to h r (message_at r.id ms) ≡ false). ap (λ (l : List QueuedPart). row_at queued_key (pair_key id n) l) (report_rest r rs ls t) ∙ parts_with id n rs ls some small)
      (cases_Bool (reports_to h r (message_at r.id ms)))

  -- no other report of the message waits
  rest_alone : (r : ReportRow) (o : Option ReportRow) → ((s : ReportRow) → o ≡ Some s → s ≡ r) → reports_to h r (message_at r.id ms) ≡ false → report_wait h ms o ≡ None
  rest_alone r None f t = refl
  rest_alone r (Some s) f t =
      let e : s ≡ r = f s refl in
      cond-false (reports_to h s (message_at s.id ms)) (Some (report_queued s)) None (subst (λ (x : ReportRow). reports_to h x (message_at x.id ms) ≡ false) (sym e) t)

  -- a status report is that of its message
  status_with : (id : ℕ) (rs : List ReportRow) (ls : List QueuedPart) → Alone rs → row_at queued_key (pair_key id 0) ls ≡ None → row_at queued_key (pair_key id 0) (with_reports h ms rs ls) ≡ report_wait h ms (report_of id rs)
  status_with id [] ls alone none = none
  status_with id (r ∷ rs) ls alone none =
      let later : Alone rs = λ a b m n e. alone a b (inr m) (inr n) e in
      let rest = status_with id rs ls later none in
      ⊎_elim
      (λ (e : r.id ≡ id). ⊎_elim
      (λ (t : reports_to h r (message_at r.id ms) ≡ true).
      ap (λ (l : List QueuedPart). row_at queued_key (pair_key id 0) l) (report_first r rs ls t)
      ∙ subst (λ (n : ℕ). row_at queued_key (pair_key n 0) (put queued_key (report_queued r) (with_reports h ms rs ls)) ≡ Some (report_queued r)) e (row_at_put queued_key (report_queued r) (with_reports h ms rs ls))
      ∙ sym (ap (λ (o : Option ReportRow). report_wait h ms o) (report_here id r rs e) ∙ cond-true (reports_to h r (message_at r.id ms)) (Some (report_queued r)) None t))
      (λ (t : reports_to h r (message_at r.id ms) ≡ false).
      ap (λ (l : List QueuedPart). row_at queued_key (pair_key id 0) l) (report_rest r rs ls t) ∙ rest
      ∙ rest_alone r (report_of id rs) (λ s f. let g = report_found id s rs f in alone s r (inr g.0) (inl refl) (g.1 ∙ sym e)) t
      ∙ sym (ap (λ (o : Option ReportRow). report_wait h ms o) (report_here id r rs e) ∙ cond-false (reports_to h r (message_at r.id ms)) (Some (report_queued r)) None t))
      (cases_Bool (reports_to h r (message_at r.id ms))))
      (λ (e : r.id ≡ id → ⊥). ⊎_elim
      (λ (t : reports_to h r (message_at r.id ms) ≡ true).
      ap (λ (l : List QueuedPart). row_at queued_key (pair_key id 0) l) (report_first r rs ls t)
      ∙ row_at_put_other queued_key (pair_key id 0) (report_queued r) (with_reports h ms rs ls) (λ q. e (omega (arith, q)))
      ∙ rest ∙ ap (λ (o : Option ReportRow). report_wait h ms o) (sym (report_behind id r rs e)))
      (λ (t : reports_to h r (message_at r.id ms) ≡ false).
      ap (λ (l : List QueuedPart). row_at queued_key (pair_key id 0) l) (report_rest r rs ls t)
      ∙ rest ∙ ap (λ (o : Option ReportRow). report_wait h ms o) (sym (report_behind id r rs e)))
      (cases_Bool (reports_to h r (message_at r.id ms))))
      (cases_eq r.id id)

-- no part has number 0
none_zero : (h : List ℕ) (ms : List MessageRow) (qs : List PriorityRow) (ps : List PartRow) (id : ℕ) → Numbered ps → row_at queued_key (pair_key id 0) (parts_waiting h ms qs ps) ≡ None
none_zero h ms qs ps id numbered = waiting_at h ms qs (pair_key id 0) ps numbered.keys ∙ ap (λ (o : Option PartRow). part_wait h ms qs o) (none (row_at part_key (pair_key id 0) ps) refl)
  where
    none : (o : Option PartRow) → row_at part_key (pair_key id 0) ps ≡ o → o ≡ None
    none None e = refl
    none (Some p) e =
        let n = numbered.numbers p (found_among part_key (pair_key id 0) p ps e) in
        let k : pair_key p.id p.number ≡ pair_key id 0 = found_key part_key (pair_key id 0) p ps e in
        absurd (omega (arith, k, n.0, n.1))

-- ---- all that waits

pub rises_all : (h : List ℕ) (ms : List MessageRow) (qs : List PriorityRow) (ps : List PartRow) (rs : List ReportRow) → Numbered ps → Rises queued_key (waiting_for h ms qs ps rs)
rises_all h ms qs ps rs numbered = rises_with h ms rs (parts_waiting h ms qs ps) (rises_waiting h ms qs ps numbered.keys)

pub part_waits_at : (h : List ℕ) (ms : List MessageRow) (qs : List PriorityRow) (ps : List PartRow) (rs : List ReportRow) (id n : ℕ) → Numbered ps → 0 < n → n < 256
    → row_at queued_key (pair_key id n) (waiting_for h ms qs ps rs) ≡ part_wait h ms qs (part_at id n ps)
part_waits_at h ms qs ps rs id n numbered some small =
    parts_with h ms id n rs (parts_waiting h ms qs ps) some small ∙ waiting_at h ms qs (pair_key id n) ps numbered.keys

pub report_waits_at : (h : List ℕ) (ms : List MessageRow) (qs : List PriorityRow) (ps : List PartRow) (rs : List ReportRow) (id : ℕ) → Numbered ps → Alone rs
    → row_at queued_key (pair_key id 0) (waiting_for h ms qs ps rs) ≡ report_wait h ms (report_of id rs)
report_waits_at h ms qs ps rs id numbered alone = status_with h ms id rs (parts_waiting h ms qs ps) alone (none_zero h ms qs ps id numbered)
