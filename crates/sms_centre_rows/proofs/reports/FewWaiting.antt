-- The numbers of what waits are below 256.
use Rattle.std.proofs.Common.{◌≡◌, ℕ, ◌<◌, List, [], ◌∷◌, true, false, refl, sym, subst, inl, inr, ⊎_elim, arith}
use Rattle.std.proofs.lemmas.Bool.{cases_Bool, cond-true, cond-false}
use Rattle.sms_base.specs.Among.{Among}
use Rattle.sms_rows.specs.table.Table.{put}
use Rattle.sms_rows.proofs.table.Tables.{among_put}
use Rattle.sms_centre_rows.specs.declared.messages.message.MessageRow.{MessageRow}
use Rattle.sms_centre_rows.specs.declared.messages.part.PartRow.{PartRow}
use Rattle.sms_centre_rows.specs.declared.messages.priority.PriorityRow.{PriorityRow}
use Rattle.sms_centre_rows.specs.messages.Messages.{message_at}
use Rattle.sms_centre_rows.specs.messages.OpenParts.{part_queued, parts_waiting, waits_for}
use Rattle.sms_centre_rows.specs.declared.reports.report.ReportRow.{ReportRow}
use Rattle.sms_centre_rows.specs.messages.OpenParts.{Numbered}
use Rattle.sms_centre_rows.specs.reports.Waiting.{report_queued, reports_to, waiting_for, with_reports}
use Rattle.sms_centre_rows.specs.declared.waiting.queued_part.QueuedPart.{QueuedPart}
use Rattle.sms_centre_rows.specs.waiting.Keys.{queued_key}
use Rattle.sms_centre_rows.proofs.waiting.Withdrawing.{AreFew}

parts_few : (h : List ℕ) (ms : List MessageRow) (qs : List PriorityRow) (ps : List PartRow) → ((p : PartRow) → Among p ps → p.number < 256) → AreFew (parts_waiting h ms qs ps)
parts_few h ms qs [] few = λ l m. elim m [ ]
parts_few h ms qs (p ∷ ps) few =
    let rest = parts_few h ms qs ps (λ x m. few x (inr m)) in
    ⊎_elim
    (λ (t : waits_for h p (message_at p.id ms) ≡ true).
    subst (λ (ls : List QueuedPart). AreFew ls) (sym (cond-true (waits_for h p (message_at p.id ms)) (part_queued p qs ∷ parts_waiting h ms qs ps) (parts_waiting h ms qs ps) t))
    (λ l m. ⊎_elim (λ (e : l ≡ part_queued p qs). subst (λ (x : QueuedPart). x.number < 256) (sym e) (few p (inl refl))) (λ (r : Among l (parts_waiting h ms qs ps)). rest l r) m))
    (λ (t : waits_for h p (message_at p.id ms) ≡ false).
    subst (λ (ls : List QueuedPart). AreFew ls) (sym (cond-false (waits_for h p (message_at p.id ms)) (part_queued p qs ∷ parts_waiting h ms qs ps) (parts_waiting h ms qs ps) t)) rest)
    (cases_Bool (waits_for h p (message_at p.id ms)))

with_few : (h : List ℕ) (ms : List MessageRow) (rs : List ReportRow) (ls : List QueuedPart) → AreFew ls → AreFew (with_reports h ms rs ls)
with_few h ms [] ls few = few
with_few h ms (r ∷ rs) ls few =
    let rest = with_few h ms rs ls few in
    ⊎_elim
    (λ (t : reports_to h r (message_at r.id ms) ≡ true).
    subst (λ (x : List QueuedPart). AreFew x) (sym (cond-true (reports_to h r (message_at r.id ms)) (put queued_key (report_queued r) (with_reports h ms rs ls)) (with_reports h ms rs ls) t))
    (λ l m. ⊎_elim
    (λ (e : l ≡ report_queued r). let z : 0 < 256 = omega arith in subst (λ (x : QueuedPart). x.number < 256) (sym e) z)
    (λ (k : Among l (with_reports h ms rs ls) × ¬ (queued_key l ≡ queued_key (report_queued r))). rest l k.0)
    (among_put queued_key l (report_queued r) (with_reports h ms rs ls) m)))
    (λ (t : reports_to h r (message_at r.id ms) ≡ false).
    subst (λ (x : List QueuedPart). AreFew x) (sym (cond-false (reports_to h r (message_at r.id ms)) (put queued_key (report_queued r) (with_reports h ms rs ls)) (with_reports h ms rs ls) t)) rest)
    (cases_Bool (reports_to h r (message_at r.id ms)))

pub all_few : (h : List ℕ) (ms : List MessageRow) (qs : List PriorityRow) (ps : List PartRow) (rs : List ReportRow) → Numbered ps → AreFew (waiting_for h ms qs ps rs)
all_few h ms qs ps rs numbered = with_few h ms rs (parts_waiting h ms qs ps) (parts_few h ms qs ps (λ p m. (numbered.numbers p m).1))
