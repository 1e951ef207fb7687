-- What waits, as one more of the rows is looked at.
use Rattle.std.proofs.Common.{◌≡◌, ℕ, zero, List, [], ◌∷◌, Bool, true, false, Option, None, Some, refl, sym, ◌∙◌, ap, subst, bytes_eq}
use Rattle.std.specs.Prelude.{◌&&◌, not}
use Rattle.std.proofs.lemmas.Bool.{and_from, and_parts, cond-true, cond-false}
use Rattle.std.proofs.lemmas.Slice.Eq.{bytes_eq-Decides}
use Rattle.sms_base.proofs.OctetLaws.{differ}
use Rattle.sms_rows.specs.table.Table.{AllAbove, Rises, insert, put}
use Rattle.sms_rows.proofs.table.Places.{without_gap}
use Rattle.sms_rows.proofs.table.Tables.{insert_here}
use Rattle.sms_centre_rows.specs.declared.messages.message.MessageRow.{MessageRow}
use Rattle.sms_centre_rows.specs.declared.messages.part.PartRow.{PartRow}
use Rattle.sms_centre_rows.specs.declared.messages.priority.PriorityRow.{PriorityRow}
use Rattle.sms_centre_rows.specs.messages.Messages.{is_pending, message_at, part_key}
use Rattle.sms_centre_rows.specs.messages.OpenParts.{is_open_part, part_queued, parts_waiting, waits_for}
use Rattle.sms_centre_rows.proofs.messages.PartsWaiting.{rises_waiting}
use Rattle.sms_centre_rows.specs.declared.reports.report.ReportRow.{ReportRow}
use Rattle.sms_centre_rows.specs.reports.Reports.{is_open_status}
use Rattle.sms_centre_rows.specs.reports.Waiting.{report_queued, reports_to, with_reports}
use Rattle.sms_centre_queue.specs.queues.Representing.{Waits}
use Rattle.sms_centre_rows.specs.declared.waiting.queued_part.QueuedPart.{QueuedPart}
use Rattle.sms_centre_rows.specs.waiting.Keys.{queued_key}

-- ---- a row that goes before all others

put_first : {A : Type 0} (key : A → ℕ) (x : A) (xs : List A) → AllAbove key (key x) xs → put key x xs ≡ x ∷ xs
put_first {A} key x xs above = ap (λ (ys : List A). insert key x ys) (without_gap key (key x) zero xs above) ∙ first xs above
  where
    first : (ys : List A) → AllAbove key (key x) ys → insert key x ys ≡ x ∷ ys
    first [] a = refl
    first (y ∷ ys) a = insert_here key x y ys a.0

-- ---- parts

module _ (ms : List MessageRow) (qs : List PriorityRow) where
  waits_own : (p : PartRow) (m : MessageRow) → is_open_part p (Some m) ≡ true → waits_for m.handset p (Some m) ≡ true
  waits_own p m t =
      let a = and_parts (not p.progress.is_done) (is_pending m) t in
      and_from (not p.progress.is_done) (is_pending m && bytes_eq m.handset m.handset) a.0 (and_from (is_pending m) (bytes_eq m.handset m.handset) a.1 ((bytes_eq-Decides m.handset m.handset).1 refl))

  waits_other : (h : List ℕ) (p : PartRow) (m : MessageRow) → ¬ (m.handset ≡ h) → waits_for h p (Some m) ≡ false
  waits_other h p m ne = no_eq (not p.progress.is_done) (is_pending m) (bytes_eq m.handset h) (differ m.handset h ne)
    where
      no_eq : (a b c : Bool) → c ≡ false → (a && (b && c)) ≡ false
      no_eq true true c e = e
      no_eq true false c e = refl
      no_eq false b c e = refl

  pub part_waits : (p : PartRow) (m : MessageRow) (ps : List PartRow) → message_at p.id ms ≡ Some m → is_open_part p (Some m) ≡ true → Rises part_key (p ∷ ps)
      → Waits m.handset (put queued_key (part_queued p qs)) (λ h. parts_waiting h ms qs ps) (λ h. parts_waiting h ms qs (p ∷ ps))
  part_waits p m ps found waits rises =
      let is : waits_for m.handset p (message_at p.id ms) ≡ true = ap (λ (o : Option MessageRow). waits_for m.handset p o) found ∙ waits_own p m waits in
      let own : parts_waiting m.handset ms qs (p ∷ ps) ≡ part_queued p qs ∷ parts_waiting m.handset ms qs ps = cond-true (waits_for m.handset p (message_at p.id ms)) (part_queued p qs ∷ parts_waiting m.handset ms qs ps) (parts_waiting m.handset ms qs ps) is in
      let order : Rises queued_key (part_queued p qs ∷ parts_waiting m.handset ms qs ps) = subst (λ (ls : List QueuedPart). Rises queued_key ls) own (rises_waiting m.handset ms qs (p ∷ ps) rises) in (
        own ∙ sym (put_first queued_key (part_queued p qs) (parts_waiting m.handset ms qs ps) order.0),
        λ other ne. cond-false (waits_for other p (message_at p.id ms)) (part_queued p qs ∷ parts_waiting other ms qs ps) (parts_waiting other ms qs ps)
            (ap (λ (o : Option MessageRow). waits_for other p o) found ∙ waits_other other p m ne),
      )

  done_waits : (h : List ℕ) (p : PartRow) (o : Option MessageRow) → p.progress.is_done ≡ true → waits_for h p o ≡ false
  done_waits h p None done = refl
  done_waits h p (Some m) done = ap (λ (b : Bool). not b && (is_pending m && bytes_eq m.handset h)) done

  -- a part that is done does not wait
  pub part_done : (h : List ℕ) (p : PartRow) (ps : List PartRow) → p.progress.is_done ≡ true → parts_waiting h ms qs (p ∷ ps) ≡ parts_waiting h ms qs ps
  part_done h p ps done = cond-false (waits_for h p (message_at p.id ms)) (part_queued p qs ∷ parts_waiting h ms qs ps) (parts_waiting h ms qs ps) (done_waits h p (message_at p.id ms) done)

-- ---- status reports

module _ (ms : List MessageRow) (w : List ℕ → List QueuedPart) where
  reports_own : (r : ReportRow) (m : MessageRow) → is_open_status r ≡ true → reports_to m.source.digits r (Some m) ≡ true
  reports_own r m t = and_from (is_open_status r) (bytes_eq m.source.digits m.source.digits) t ((bytes_eq-Decides m.source.digits m.source.digits).1 refl)

  reports_other : (h : List ℕ) (r : ReportRow) (m : MessageRow) → ¬ (m.source.digits ≡ h) → reports_to h r (Some m) ≡ false
  reports_other h r m ne = no_eq (is_open_status r) (bytes_eq m.source.digits h) (differ m.source.digits h ne)
    where
      no_eq : (a c : Bool) → c ≡ false → (a && c) ≡ false
      no_eq true c e = e
      no_eq false c e = refl

  pub report_waits : (r : ReportRow) (m : MessageRow) (rs : List ReportRow) → message_at r.id ms ≡ Some m → is_open_status r ≡ true
      → Waits m.source.digits (put queued_key (report_queued r)) (λ h. with_reports h ms rs (w h)) (λ h. with_reports h ms (r ∷ rs) (w h))
  report_waits r m rs found waits = (
    cond-true (reports_to m.source.digits r (message_at r.id ms)) (put queued_key (report_queued r) (with_reports m.source.digits ms rs (w m.source.digits))) (with_reports m.source.digits ms rs (w m.source.digits))
        (ap (λ (o : Option MessageRow). reports_to m.source.digits r o) found ∙ reports_own r m waits),
    λ other ne. cond-false (reports_to other r (message_at r.id ms)) (put queued_key (report_queued r) (with_reports other ms rs (w other))) (with_reports other ms rs (w other))
        (ap (λ (o : Option MessageRow). reports_to other r o) found ∙ reports_other other r m ne),
  )
