-- What becomes of what waits for each handset with a move of the rows.
use Rattle.std.proofs.Common.{◌≡◌, ℕ, ◌<◌, List, Bool, true, false, Option, Some, None, refl, ◌∙◌, ap, bytes_eq}
use Rattle.std.specs.Prelude.{◌&&◌, not, if◌then◌else◌}
use Rattle.std.proofs.lemmas.Bool.{cond-true, cond-false}
use Rattle.std.proofs.lemmas.Slice.Eq.{bytes_eq-Decides}
use Rattle.sms_base.proofs.OctetLaws.{differ}
use Rattle.sms_rows.specs.table.Keys.{pair_key}
use Rattle.sms_rows.specs.table.Table.{put, row_at, without}
use Rattle.sms_rows.proofs.table.Tables.{found_among, row_at_put, row_at_put_other}
use Rattle.sms_centre_rows.specs.declared.messages.message.MessageRow.{MessageRow}
use Rattle.sms_centre_rows.specs.declared.messages.part.PartRow.{PartRow}
use Rattle.sms_centre_rows.specs.declared.messages.priority.PriorityRow.{PriorityRow}
use Rattle.sms_centre_rows.specs.messages.Messages.{is_pending, message_at, part_at, part_key, part_reaching}
use Rattle.sms_centre_rows.specs.messages.OpenParts.{part_queued, part_wait, waits_for}
use Rattle.sms_centre_rows.proofs.messages.PartRows.{numbered_amended, numbered_put, part_amended, part_amended_other}
use Rattle.sms_centre_rows.specs.declared.reports.report.ReportRow.{ReportRow}
use Rattle.sms_centre_rows.specs.reports.Reports.{is_open_status, is_status, put_report, report_key, report_of, report_reaching}
use Rattle.sms_centre_rows.specs.reports.Waiting.{IsReportApart, report_queued, report_wait, reports_to, waiting_as}
use Rattle.sms_centre_rows.proofs.reports.AllWaiting.{part_waits_at, report_waits_at}
use Rattle.sms_centre_rows.proofs.reports.EndsWaiting.{new_waits}
use Rattle.sms_centre_rows.proofs.reports.ReportRows.{amended_alone, amended_other, amended_own, new_alone, new_report, new_report_other}
use Rattle.sms_centre_rows.proofs.reports.WaitingChanges.{part_changes, report_changes}
use Rattle.sms_centre_rows.specs.declared.waiting.queued_part.QueuedPart.{QueuedPart}
use Rattle.sms_centre_rows.specs.declared.waiting.progress.Progress.{Progress}
use Rattle.sms_centre_rows.specs.waiting.Keys.{queued_key}
use Rattle.sms_centre_rows.specs.waiting.Revisions.{amended}
use Rattle.sms_centre_queue.proofs.queue.FreeCounted.{absent_same}
use Rattle.sms_centre_queue.specs.queues.Representing.{Waits}
use Rattle.sms_centre_spec.specs.Draft.{Store, messages_in, parts_in, priorities_in, reports_in, with_message, with_part, with_part_at, with_priority, with_report_at, with_reports}
use Rattle.sms_centre_spec.specs.Held.{SoundHeld}
use Rattle.sms_centre_draft.specs.CentreDraft.{all_waiting}
use Rattle.sms_centre_draft.proofs.OthersWaiting.{part_elsewhere}

-- ---- under one key

-- nothing waits under the key for other handsets
abbrev pub NoneElse : ℕ → List ℕ → (List ℕ → Option QueuedPart) → (List ℕ → List QueuedPart) → Type 0
NoneElse k number o w = (other : List ℕ) → ¬ (number ≡ other) → (o other ≡ None) × (row_at queued_key k (w other) ≡ None)

waits_put : (k : ℕ) (number : List ℕ) (l : QueuedPart) (o : List ℕ → Option QueuedPart) (w w2 : List ℕ → List QueuedPart) → ((n : List ℕ) → w2 n ≡ waiting_as k (o n) (w n)) → o number ≡ Some l → NoneElse k number o w
    → Waits number (put queued_key l) w w2
waits_put k number l o w w2 f own others = (
  f number ∙ ap (λ (x : Option QueuedPart). waiting_as k x (w number)) own,
  λ other ne. let g = others other ne in f other ∙ ap (λ (x : Option QueuedPart). waiting_as k x (w other)) g.0 ∙ absent_same k (w other) g.1,
)

waits_without : (k : ℕ) (number : List ℕ) (o : List ℕ → Option QueuedPart) (w w2 : List ℕ → List QueuedPart) → ((n : List ℕ) → w2 n ≡ waiting_as k (o n) (w n)) → o number ≡ None → NoneElse k number o w
    → Waits number (without queued_key k) w w2
waits_without k number o w w2 f own others = (
  f number ∙ ap (λ (x : Option QueuedPart). waiting_as k x (w number)) own,
  λ other ne. let g = others other ne in f other ∙ ap (λ (x : Option QueuedPart). waiting_as k x (w other)) g.0 ∙ absent_same k (w other) g.1,
)

-- ---- a part is so far

part_far_as : (s : Store) (p : PartRow) (q : Progress) → SoundHeld s → row_at part_key (part_key p) (parts_in s) ≡ Some p
    → (n : List ℕ) → all_waiting (with_part_at p q s) n ≡ waiting_as (part_key p) (part_wait n (messages_in s) (priorities_in s) (Some (part_reaching q p))) (all_waiting s n)
part_far_as s p q held there n =
    part_changes n (messages_in s) (priorities_in s) (parts_in s) (amended part_key part_reaching (part_key p) q (parts_in s)) (reports_in s) (part_reaching q p) held.parts
    (numbered_amended (part_key p) q (parts_in s) held.parts) held.alone (part_amended p q (parts_in s) there) (λ k ne. part_amended_other p q (parts_in s) k ne)

part_none_else : (s : Store) (p : PartRow) (q : Progress) (m : MessageRow) → SoundHeld s → row_at part_key (part_key p) (parts_in s) ≡ Some p → message_at p.id (messages_in s) ≡ Some m
    → NoneElse (part_key p) m.handset (λ n. part_wait n (messages_in s) (priorities_in s) (Some (part_reaching q p))) (all_waiting s)
part_none_else s p q m held there of other ne =
    let own = held.parts.numbers p (found_among part_key (part_key p) p (parts_in s) there) in (
      part_elsewhere other (messages_in s) (priorities_in s) (part_reaching q p) m of ne,
      part_waits_at other (messages_in s) (priorities_in s) (parts_in s) (reports_in s) p.id p.number held.parts own.0 own.1
          ∙ ap (λ (x : Option PartRow). part_wait other (messages_in s) (priorities_in s) x) there
          ∙ part_elsewhere other (messages_in s) (priorities_in s) p m of ne,
    )

pub part_done_waits : (s : Store) (p : PartRow) (q : Progress) (m : MessageRow) → SoundHeld s → row_at part_key (part_key p) (parts_in s) ≡ Some p → message_at p.id (messages_in s) ≡ Some m → q.is_done ≡ true
    → Waits m.handset (without queued_key (pair_key p.id p.number)) (all_waiting s) (all_waiting (with_part_at p q s))
part_done_waits s p q m held there of done =
    waits_without (part_key p) m.handset (λ n. part_wait n (messages_in s) (priorities_in s) (Some (part_reaching q p))) (all_waiting s) (all_waiting (with_part_at p q s))
    (part_far_as s p q held there)
    (ap (λ (o : Option MessageRow). if waits_for m.handset (part_reaching q p) o then Some (part_queued (part_reaching q p) (priorities_in s)) else None) of
    ∙ cond-false (not q.is_done && (is_pending m && bytes_eq m.handset m.handset)) (Some (part_queued (part_reaching q p) (priorities_in s))) None
    (ap (λ (b : Bool). not b && (is_pending m && bytes_eq m.handset m.handset)) done))
    (part_none_else s p q m held there of)

-- a part of a pending message that isn't done waits for the message's handset
pub open_waits : (s : Store) (p : PartRow) (m : MessageRow) → message_at p.id (messages_in s) ≡ Some m → is_pending m ≡ true → p.progress.is_done ≡ false
    → part_wait m.handset (messages_in s) (priorities_in s) (Some p) ≡ Some (part_queued p (priorities_in s))
open_waits s p m of pending undone =
    ap (λ (o : Option MessageRow). if waits_for m.handset p o then Some (part_queued p (priorities_in s)) else None) of
    ∙ cond-true (not p.progress.is_done && (is_pending m && bytes_eq m.handset m.handset)) (Some (part_queued p (priorities_in s))) None
    (ap (λ (b : Bool). not b && (is_pending m && bytes_eq m.handset m.handset)) undone
    ∙ ap (λ (b : Bool). b && bytes_eq m.handset m.handset) pending
    ∙ (bytes_eq-Decides m.handset m.handset).1 refl)

pub part_off_waits : (s : Store) (p : PartRow) (q : Progress) (m : MessageRow) → SoundHeld s → row_at part_key (part_key p) (parts_in s) ≡ Some p → message_at p.id (messages_in s) ≡ Some m → is_pending m ≡ true → q.is_done ≡ false
    → Waits m.handset (put queued_key (part_queued (part_reaching q p) (priorities_in s))) (all_waiting s) (all_waiting (with_part_at p q s))
part_off_waits s p q m held there of pending undone =
    waits_put (part_key p) m.handset (part_queued (part_reaching q p) (priorities_in s)) (λ n. part_wait n (messages_in s) (priorities_in s) (Some (part_reaching q p))) (all_waiting s) (all_waiting (with_part_at p q s))
    (part_far_as s p q held there)
    (open_waits s (part_reaching q p) m of pending undone)
    (part_none_else s p q m held there of)

-- what waits of an open part, looked up
pub part_waiting : (s : Store) (p : PartRow) (m : MessageRow) → SoundHeld s → row_at part_key (part_key p) (parts_in s) ≡ Some p → message_at p.id (messages_in s) ≡ Some m → is_pending m ≡ true → p.progress.is_done ≡ false
    → row_at queued_key (pair_key p.id p.number) (all_waiting s m.handset) ≡ Some (part_queued p (priorities_in s))
part_waiting s p m held there of pending undone =
    let own = held.parts.numbers p (found_among part_key (part_key p) p (parts_in s) there) in
    part_waits_at m.handset (messages_in s) (priorities_in s) (parts_in s) (reports_in s) p.id p.number held.parts own.0 own.1
    ∙ ap (λ (x : Option PartRow). part_wait m.handset (messages_in s) (priorities_in s) x) there
    ∙ open_waits s p m of pending undone

-- ---- a part is new

pub part_new_waits : (s : Store) (p : PartRow) (m : MessageRow) → SoundHeld s → message_at p.id (messages_in s) ≡ Some m → is_pending m ≡ true → p.progress.is_done ≡ false → 0 < p.number → p.number < 256
    → part_at p.id p.number (parts_in s) ≡ None
    → Waits m.handset (put queued_key (part_queued p (priorities_in s))) (all_waiting s) (all_waiting (with_part p s))
part_new_waits s p m held of pending undone some small none =
    waits_put (part_key p) m.handset (part_queued p (priorities_in s)) (λ n. part_wait n (messages_in s) (priorities_in s) (Some p)) (all_waiting s) (all_waiting (with_part p s))
    (λ n. part_changes n (messages_in s) (priorities_in s) (parts_in s) (put part_key p (parts_in s)) (reports_in s) p held.parts (numbered_put p (parts_in s) held.parts some small) held.alone
    (row_at_put part_key p (parts_in s)) (λ k ne. row_at_put_other part_key k p (parts_in s) ne))
    (open_waits s p m of pending undone)
    (λ other ne. (
      part_elsewhere other (messages_in s) (priorities_in s) p m of ne,
      part_waits_at other (messages_in s) (priorities_in s) (parts_in s) (reports_in s) p.id p.number held.parts some small
          ∙ ap (λ (x : Option PartRow). part_wait other (messages_in s) (priorities_in s) x) none,
    ))

-- ---- reports

report_elsewhere : (other : List ℕ) (ms : List MessageRow) (r : ReportRow) (m : MessageRow) → message_at r.id ms ≡ Some m → ¬ (m.source.digits ≡ other) → report_wait other ms (Some r) ≡ None
report_elsewhere other ms r m of ne =
    ap (λ (o : Option MessageRow). if reports_to other r o then Some (report_queued r) else None) of
    ∙ cond-false (is_open_status r && bytes_eq m.source.digits other) (Some (report_queued r)) None
    (ap (λ (b : Bool). is_open_status r && b) (differ m.source.digits other ne) ∙ and_false (is_open_status r))
  where
    and_false : (b : Bool) → (b && false) ≡ false
    and_false true = refl
    and_false false = refl

pub status_waits : (ms : List MessageRow) (r : ReportRow) (m : MessageRow) → message_at r.id ms ≡ Some m → is_open_status r ≡ true → report_wait m.source.digits ms (Some r) ≡ Some (report_queued r)
status_waits ms r m of is_open =
    ap (λ (o : Option MessageRow). if reports_to m.source.digits r o then Some (report_queued r) else None) of
    ∙ cond-true (is_open_status r && bytes_eq m.source.digits m.source.digits) (Some (report_queued r)) None
    (ap (λ (b : Bool). b && bytes_eq m.source.digits m.source.digits) is_open ∙ (bytes_eq-Decides m.source.digits m.source.digits).1 refl)

quiet_waits : (n : List ℕ) (ms : List MessageRow) (r : ReportRow) (o : Option MessageRow) → message_at r.id ms ≡ o → is_open_status r ≡ false → report_wait n ms (Some r) ≡ None
quiet_waits n ms r None of closed = ap (λ (o : Option MessageRow). if reports_to n r o then Some (report_queued r) else None) of
quiet_waits n ms r (Some m) of closed =
    ap (λ (o : Option MessageRow). if reports_to n r o then Some (report_queued r) else None) of
    ∙ cond-false (is_open_status r && bytes_eq m.source.digits n) (Some (report_queued r)) None (ap (λ (b : Bool). b && bytes_eq m.source.digits n) closed)

report_new_as : (s : Store) (r : ReportRow) → SoundHeld s → IsReportApart (reports_in s) r
    → (n : List ℕ) → all_waiting (with_reports (put_report r s.reports) s) n ≡ waiting_as (pair_key r.id 0) (report_wait n (messages_in s) (Some r)) (all_waiting s n)
report_new_as s r held new n =
    let rs : List ReportRow = reports_in s in
    report_changes n (messages_in s) (priorities_in s) (parts_in s) rs (put report_key r rs) r held.parts held.alone (new_alone r rs new held.alone) (new_report r rs new) (λ id ne. new_report_other id r rs new ne)

-- no report of the message waits
none_waits : (s : Store) (id : ℕ) (n : List ℕ) → SoundHeld s → report_of id (reports_in s) ≡ None → row_at queued_key (pair_key id 0) (all_waiting s n) ≡ None
none_waits s id n held none =
    report_waits_at n (messages_in s) (priorities_in s) (parts_in s) (reports_in s) id held.parts held.alone ∙ ap (λ (o : Option ReportRow). report_wait n (messages_in s) o) none

-- a receipt, or what is never sent
pub quiet_new_waits : (s : Store) (r : ReportRow) → SoundHeld s → IsReportApart (reports_in s) r → report_of r.id (reports_in s) ≡ None → is_open_status r ≡ false
    → (n : List ℕ) → all_waiting (with_reports (put_report r s.reports) s) n ≡ all_waiting s n
quiet_new_waits s r held new none closed n =
    report_new_as s r held new n
    ∙ ap (λ (o : Option QueuedPart). waiting_as (pair_key r.id 0) o (all_waiting s n)) (quiet_waits n (messages_in s) r (message_at r.id (messages_in s)) refl closed)
    ∙ absent_same (pair_key r.id 0) (all_waiting s n) (none_waits s r.id n held none)

pub status_new_waits : (s : Store) (r : ReportRow) (m : MessageRow) → SoundHeld s → IsReportApart (reports_in s) r → report_of r.id (reports_in s) ≡ None → message_at r.id (messages_in s) ≡ Some m → is_open_status r ≡ true
    → Waits m.source.digits (put queued_key (report_queued r)) (all_waiting s) (all_waiting (with_reports (put_report r s.reports) s))
status_new_waits s r m held new none of is_open =
    waits_put (pair_key r.id 0) m.source.digits (report_queued r) (λ n. report_wait n (messages_in s) (Some r)) (all_waiting s) (all_waiting (with_reports (put_report r s.reports) s))
    (report_new_as s r held new)
    (status_waits (messages_in s) r m of is_open)
    (λ other ne. (report_elsewhere other (messages_in s) r m of ne, none_waits s r.id other held none))

report_far_as : (s : Store) (r : ReportRow) (q : Progress) → SoundHeld s → report_of r.id (reports_in s) ≡ Some r
    → (n : List ℕ) → all_waiting (with_report_at r q s) n ≡ waiting_as (pair_key r.id 0) (report_wait n (messages_in s) (Some (report_reaching q r))) (all_waiting s n)
report_far_as s r q held there n =
    let rs : List ReportRow = reports_in s in
    report_changes n (messages_in s) (priorities_in s) (parts_in s) rs (amended report_key report_reaching (report_key r) q rs) (report_reaching q r) held.parts held.alone (amended_alone (report_key r) q rs held.alone)
    (amended_own r q rs there) (λ id ne. amended_other id r q rs held.report_keys there ne)

report_none_else : (s : Store) (r : ReportRow) (q : Progress) (m : MessageRow) → SoundHeld s → report_of r.id (reports_in s) ≡ Some r → message_at r.id (messages_in s) ≡ Some m
    → NoneElse (pair_key r.id 0) m.source.digits (λ n. report_wait n (messages_in s) (Some (report_reaching q r))) (all_waiting s)
report_none_else s r q m held there of other ne = (
  report_elsewhere other (messages_in s) (report_reaching q r) m of ne,
  report_waits_at other (messages_in s) (priorities_in s) (parts_in s) (reports_in s) r.id held.parts held.alone
      ∙ ap (λ (x : Option ReportRow). report_wait other (messages_in s) x) there
      ∙ report_elsewhere other (messages_in s) r m of ne,
)

pub status_done_waits : (s : Store) (r : ReportRow) (q : Progress) (m : MessageRow) → SoundHeld s → report_of r.id (reports_in s) ≡ Some r → message_at r.id (messages_in s) ≡ Some m → q.is_done ≡ true
    → Waits m.source.digits (without queued_key (pair_key r.id 0)) (all_waiting s) (all_waiting (with_report_at r q s))
status_done_waits s r q m held there of done =
    waits_without (pair_key r.id 0) m.source.digits (λ n. report_wait n (messages_in s) (Some (report_reaching q r))) (all_waiting s) (all_waiting (with_report_at r q s))
    (report_far_as s r q held there)
    (quiet_waits m.source.digits (messages_in s) (report_reaching q r) (Some m) of (ap (λ (b : Bool). is_status r.kind && not b) done ∙ and_false (is_status r.kind)))
    (report_none_else s r q m held there of)
  where
    and_false : (b : Bool) → (b && false) ≡ false
    and_false true = refl
    and_false false = refl

pub status_off_waits : (s : Store) (r : ReportRow) (q : Progress) (m : MessageRow) → SoundHeld s → report_of r.id (reports_in s) ≡ Some r → message_at r.id (messages_in s) ≡ Some m → is_status r.kind ≡ true → q.is_done ≡ false
    → Waits m.source.digits (put queued_key (report_queued (report_reaching q r))) (all_waiting s) (all_waiting (with_report_at r q s))
status_off_waits s r q m held there of status undone =
    waits_put (pair_key r.id 0) m.source.digits (report_queued (report_reaching q r)) (λ n. report_wait n (messages_in s) (Some (report_reaching q r))) (all_waiting s) (all_waiting (with_report_at r q s))
    (report_far_as s r q held there)
    (status_waits (messages_in s) (report_reaching q r) m of (ap (λ (b : Bool). b && not q.is_done) status ∙ ap (λ (b : Bool). not b) undone))
    (report_none_else s r q m held there of)

-- a receipt, or what is never sent, is so far
pub quiet_far_waits : (s : Store) (r : ReportRow) (q : Progress) → SoundHeld s → report_of r.id (reports_in s) ≡ Some r → is_status r.kind ≡ false
    → (n : List ℕ) → all_waiting (with_report_at r q s) n ≡ all_waiting s n
quiet_far_waits s r q held there quiet n =
    report_far_as s r q held there n
    ∙ ap (λ (o : Option QueuedPart). waiting_as (pair_key r.id 0) o (all_waiting s n))
    (quiet_waits n (messages_in s) (report_reaching q r) (message_at r.id (messages_in s)) refl (ap (λ (b : Bool). b && not q.is_done) quiet))
    ∙ absent_same (pair_key r.id 0) (all_waiting s n)
    (report_waits_at n (messages_in s) (priorities_in s) (parts_in s) (reports_in s) r.id held.parts held.alone
    ∙ ap (λ (x : Option ReportRow). report_wait n (messages_in s) x) there
    ∙ quiet_waits n (messages_in s) r (message_at r.id (messages_in s)) refl (ap (λ (b : Bool). b && not r.progress.is_done) quiet))

-- what waits of an open status report, looked up
pub status_waiting : (s : Store) (r : ReportRow) (m : MessageRow) → SoundHeld s → report_of r.id (reports_in s) ≡ Some r → message_at r.id (messages_in s) ≡ Some m → is_open_status r ≡ true
    → row_at queued_key (pair_key r.id 0) (all_waiting s m.source.digits) ≡ Some (report_queued r)
status_waiting s r m held there of is_open =
    report_waits_at m.source.digits (messages_in s) (priorities_in s) (parts_in s) (reports_in s) r.id held.parts held.alone
    ∙ ap (λ (x : Option ReportRow). report_wait m.source.digits (messages_in s) x) there
    ∙ status_waits (messages_in s) r m of is_open

-- ---- a message is new

pub entered_waits : (s : Store) (m : MessageRow) (q : PriorityRow) → SoundHeld s → q.id ≡ m.id → ((n : ℕ) → part_at m.id n (parts_in s) ≡ None) → report_of m.id (reports_in s) ≡ None
    → (n : List ℕ) → all_waiting (with_priority q (with_message m s)) n ≡ all_waiting s n
entered_waits s m q held own none free n = new_waits n (messages_in s) (priorities_in s) (parts_in s) (reports_in s) m q held.parts held.alone own none free
