-- What a centre looks up is the same without the messages that go.
use Rattle.std.proofs.Common.{◌≡◌, ℕ, List, [], ◌∷◌, Bool, true, false, Option, Some, None, refl, sym, ◌∙◌, ap, inl, inr, ⊎_elim}
use Rattle.std.specs.Prelude.{◌⊎◌, ◌&&◌, not, if◌then◌else◌}
use Rattle.std.specs.Str.{bytes_eq}
use Rattle.std.proofs.lemmas.Bool.{and_left, and_right, cases_Bool, cond-false}
use Rattle.sms_base.specs.Among.{Among}
use Rattle.sms_rows.specs.table.Table.{put, row_at}
use Rattle.sms_rows.proofs.table.Tables.{found_among, found_key}
use Rattle.sms_centre_rows.specs.declared.messages.message.MessageRow.{MessageRow}
use Rattle.sms_centre_rows.specs.declared.messages.part.PartRow.{PartRow}
use Rattle.sms_centre_rows.specs.declared.messages.priority.PriorityRow.{PriorityRow}
use Rattle.sms_centre_rows.specs.messages.Messages.{is_pending, message_at, message_key, priority_in, priority_key}
use Rattle.sms_centre_rows.specs.messages.OpenParts.{part_queued, parts_waiting, waits_for}
use Rattle.sms_centre_rows.specs.declared.reports.report.ReportRow.{ReportRow}
use Rattle.sms_centre_rows.specs.reports.Reports.{is_open_status, is_status}
use Rattle.sms_centre_rows.specs.reports.Waiting.{report_queued, reports_to, waiting_for, with_reports}
use Rattle.sms_centre_rows.specs.declared.waiting.queued_part.QueuedPart.{QueuedPart}
use Rattle.sms_centre_rows.specs.waiting.Keys.{queued_key}
use Rattle.sms_centre_spec.specs.forgetting.Forgetting.{kept, part_id, report_id}
use Rattle.sms_centre_spec.proofs.forgetting.Kept.{at_goes, at_stays, kept_gone, kept_here}

pub message_stays : (goes : ℕ → Bool) (n : ℕ) (ms : List MessageRow) → goes n ≡ false → message_at n (kept message_key goes ms) ≡ message_at n ms
message_stays goes n ms s = at_stays message_key goes message_key n ms (λ y a e. ap goes e ∙ s)

pub message_goes : (goes : ℕ → Bool) (n : ℕ) (ms : List MessageRow) → goes n ≡ true → message_at n (kept message_key goes ms) ≡ None
message_goes goes n ms s = at_goes message_key goes message_key n ms (λ y a e. ap goes e ∙ s)

pub priority_stays : (goes : ℕ → Bool) (n : ℕ) (qs : List PriorityRow) → goes n ≡ false → row_at priority_key n (kept priority_key goes qs) ≡ row_at priority_key n qs
priority_stays goes n qs s = at_stays priority_key goes priority_key n qs (λ y a e. ap goes e ∙ s)

-- ---- what waits

abbrev pub Ended : (ℕ → Bool) → List MessageRow → Type 0
Ended goes ms = (m : MessageRow) → Among m ms → goes m.id ≡ true → is_pending m ≡ false

abbrev pub Closed : (ℕ → Bool) → List ReportRow → Type 0
Closed goes rs = (r : ReportRow) → Among r rs → goes r.id ≡ true → r.progress.is_done ≡ true

-- what a look-up of a message that goes gives is none, or one that has ended
pub gone_ended : (goes : ℕ → Bool) (n : ℕ) (m : MessageRow) (ms : List MessageRow) → Ended goes ms → goes n ≡ true → message_at n ms ≡ Some m → is_pending m ≡ false
gone_ended goes n m ms ended g e = ended m (found_among message_key n m ms e) (ap goes (found_key message_key n m ms e) ∙ g)

gone_waits : (goes : ℕ → Bool) (h : List ℕ) (p : PartRow) (ms : List MessageRow) → Ended goes ms → goes p.id ≡ true → waits_for h p (message_at p.id ms) ≡ false
gone_waits goes h p ms ended g = of (message_at p.id ms) refl
  where
    of : (o : Option MessageRow) → message_at p.id ms ≡ o → waits_for h p o ≡ false
    of None e = refl
    of (Some m) e = and_right (not p.progress.is_done) (is_pending m && bytes_eq m.handset h) (and_left (is_pending m) (bytes_eq m.handset h) (gone_ended goes p.id m ms ended g e))

queued_stays : (goes : ℕ → Bool) (p : PartRow) (qs : List PriorityRow) → goes p.id ≡ false → part_queued p (kept priority_key goes qs) ≡ part_queued p qs
queued_stays goes p qs s = ap (λ (o : Option PriorityRow). record (part_queued p qs) { priority = priority_in o }) (priority_stays goes p.id qs s)

pub parts_waiting_same : (goes : ℕ → Bool) (h : List ℕ) (ms : List MessageRow) (qs : List PriorityRow) (ps : List PartRow) → Ended goes ms
    → parts_waiting h (kept message_key goes ms) (kept priority_key goes qs) (kept part_id goes ps) ≡ parts_waiting h ms qs ps
parts_waiting_same goes h ms qs [] ended = refl
parts_waiting_same goes h ms qs (p ∷ ps) ended =
    let ks : List MessageRow = kept message_key goes ms in
    let js : List PriorityRow = kept priority_key goes qs in
    let few : List QueuedPart = parts_waiting h ks js (kept part_id goes ps) in
    let all : List QueuedPart = parts_waiting h ms qs ps in
    let rest : few ≡ all = parts_waiting_same goes h ms qs ps ended in
    ⊎_elim
    (λ (t : goes p.id ≡ true).
    ap (λ (l : List PartRow). parts_waiting h ks js l) (kept_gone part_id goes p ps t) ∙ rest
    ∙ sym (cond-false (waits_for h p (message_at p.id ms)) (part_queued p qs ∷ all) all (gone_waits goes h p ms ended t)))
    (λ (t : goes p.id ≡ false).
    ap (λ (l : List PartRow). parts_waiting h ks js l) (kept_here part_id goes p ps t)
    ∙ ap (λ (o : Option MessageRow). if waits_for h p o then part_queued p js ∷ few else few) (message_stays goes p.id ms t)
    ∙ ap (λ (l : QueuedPart). if waits_for h p (message_at p.id ms) then l ∷ few else few) (queued_stays goes p qs t)
    ∙ ap (λ (l : List QueuedPart). if waits_for h p (message_at p.id ms) then part_queued p qs ∷ l else l) rest)
    (cases_Bool (goes p.id))

closed_open : (r : ReportRow) → r.progress.is_done ≡ true → is_open_status r ≡ false
closed_open r e = and_right (is_status r.kind) (not r.progress.is_done) (ap not e)

gone_reports : (h : List ℕ) (r : ReportRow) (o : Option MessageRow) → r.progress.is_done ≡ true → reports_to h r o ≡ false
gone_reports h r None e = refl
gone_reports h r (Some m) e = and_left (is_open_status r) (bytes_eq m.source.digits h) (closed_open r e)

pub with_reports_same : (goes : ℕ → Bool) (h : List ℕ) (ms : List MessageRow) (rs : List ReportRow) (ls : List QueuedPart) → Closed goes rs
    → with_reports h (kept message_key goes ms) (kept report_id goes rs) ls ≡ with_reports h ms rs ls
with_reports_same goes h ms [] ls closed = refl
with_reports_same goes h ms (r ∷ rs) ls closed =
    let ks : List MessageRow = kept message_key goes ms in
    let few : List QueuedPart = with_reports h ks (kept report_id goes rs) ls in
    let all : List QueuedPart = with_reports h ms rs ls in
    let rest : few ≡ all = with_reports_same goes h ms rs ls (λ x a. closed x (inr a)) in
    ⊎_elim
    (λ (t : goes r.id ≡ true).
    ap (λ (l : List ReportRow). with_reports h ks l ls) (kept_gone report_id goes r rs t) ∙ rest
    ∙ sym (cond-false (reports_to h r (message_at r.id ms)) (put queued_key (report_queued r) all) all (gone_reports h r (message_at r.id ms) (closed r (inl refl) t))))
    (λ (t : goes r.id ≡ false).
    ap (λ (l : List ReportRow). with_reports h ks l ls) (kept_here report_id goes r rs t)
    ∙ ap (λ (o : Option MessageRow). if reports_to h r o then put queued_key (report_queued r) few else few) (message_stays goes r.id ms t)
    ∙ ap (λ (l : List QueuedPart). if reports_to h r (message_at r.id ms) then put queued_key (report_queued r) l else l) rest)
    (cases_Bool (goes r.id))

pub waiting_same : (goes : ℕ → Bool) (h : List ℕ) (ms : List MessageRow) (qs : List PriorityRow) (ps : List PartRow) (rs : List ReportRow) → Ended goes ms → Closed goes rs
    → waiting_for h (kept message_key goes ms) (kept priority_key goes qs) (kept part_id goes ps) (kept report_id goes rs) ≡ waiting_for h ms qs ps rs
waiting_same goes h ms qs ps rs ended closed =
    ap (λ (l : List QueuedPart). with_reports h (kept message_key goes ms) (kept report_id goes rs) l) (parts_waiting_same goes h ms qs ps ended)
    ∙ with_reports_same goes h ms rs (parts_waiting h ms qs ps) closed
