-- What the references of handsets rest on is kept where a part or a report is so far, and where a message ends.
use Rattle.std.proofs.Common.{◌≡◌, ℕ, List, Bool, true, false, Option, Some, None, refl, sym, ◌∙◌, ap, subst, ⊎_elim}
use Rattle.std.specs.Prelude.{◌&&◌, not}
use Rattle.std.proofs.lemmas.Bool.{cases_Bool, cond-true, cond-false, and_parts, and_from}
use Rattle.std.specs.Str.{bytes_eq}
use Rattle.sms_base.specs.Among.{Among}
use Rattle.sms_base.specs.declared.final_state.FinalState.{FinalState}
use Rattle.sms_rows.specs.table.Keys.{pair_key}
use Rattle.sms_rows.specs.table.Table.{row_at}
use Rattle.sms_rows.proofs.table.Tables.{among_put, found_among}
use Rattle.sms_centre_rows.specs.declared.messages.message.MessageRow.{MessageRow}
use Rattle.sms_centre_rows.specs.declared.messages.part.PartRow.{PartRow}
use Rattle.sms_centre_rows.specs.declared.messages.priority.PriorityRow.{PriorityRow}
use Rattle.sms_centre_rows.specs.messages.Messages.{ended, is_pending, message_at, message_key, part_at, part_key, part_reaching}
use Rattle.sms_centre_rows.specs.messages.OpenParts.{Numbered, part_queued, part_wait, waits_for}
use Rattle.sms_centre_rows.proofs.messages.PartRows.{numbered_amended, part_amended, part_amended_other}
use Rattle.sms_centre_rows.specs.declared.reports.report.ReportRow.{ReportRow}
use Rattle.sms_centre_rows.specs.reports.Reports.{is_status, report_key, report_of, report_reaching}
use Rattle.sms_centre_rows.specs.reports.Waiting.{Alone, report_queued, report_wait, reports_to, waiting_as}
use Rattle.sms_centre_rows.proofs.reports.AllWaiting.{part_waits_at, report_waits_at}
use Rattle.sms_centre_rows.proofs.reports.EndsWaiting.{end_waits, new_waits}
use Rattle.sms_centre_rows.proofs.reports.ReportRows.{amended_alone, amended_other, amended_own}
use Rattle.sms_centre_rows.proofs.reports.WaitingChanges.{part_changes, report_changes}
use Rattle.sms_centre_rows.specs.declared.waiting.handset.HandsetRow.{HandsetRow}
use Rattle.sms_centre_rows.specs.declared.waiting.queued_part.QueuedPart.{QueuedPart}
use Rattle.sms_centre_rows.specs.declared.waiting.progress.Progress.{Progress}
use Rattle.sms_centre_rows.specs.declared.waiting.reference.ReferenceRow.{ReferenceRow}
use Rattle.sms_centre_rows.specs.waiting.Keys.{queued_key}
use Rattle.sms_centre_rows.specs.waiting.References.{handset_at}
use Rattle.sms_centre_rows.specs.waiting.Revisions.{amended}
use Rattle.sms_centre_rows.specs.waiting.SoundAllocations.{IsNumber}
use Rattle.sms_centre_rows.specs.waiting.SoundWaiting.{SoundWaiting}
use Rattle.sms_centre_rows.proofs.waiting.Amending.{rises_amended}
use Rattle.sms_centre_rows.proofs.waiting.WaitingSound.{put_off_sound, withdrawn_sound, without_sound}
use Rattle.sms_centre_spec.specs.Draft.{Store, handsets_in, messages_in, parts_in, priorities_in, references_in, reports_in, waiting_in, with_message, with_part_at, with_priority, with_report_at}
use Rattle.sms_centre_spec.specs.Held.{SoundHeld}

-- What waits under a key waited under it before, with the same reference; or nothing waits there.
wait_sound : (row : Option HandsetRow) (rs : List ReferenceRow) (w : List QueuedPart) (key : ℕ) (o : Option QueuedPart) → SoundWaiting row rs w
    → ((l : QueuedPart) → o ≡ Some l → (was : QueuedPart) × ((row_at queued_key key w ≡ Some was) × (queued_key was ≡ queued_key l) × (was.reference ≡ l.reference))) → SoundWaiting row rs (waiting_as key o w)
wait_sound row rs w key None sound f = without_sound row rs w key sound
wait_sound row rs w key (Some l) sound f = let g = f l refl in put_off_sound row rs w g.0 l sound (found_among queued_key key g.0 w g.1.0) g.1.1 g.1.2

-- ---- a part is so far, and no part that was done is undone

still_waits : (h : List ℕ) (p : PartRow) (q : Progress) (o : Option MessageRow) → (q.is_done ≡ false → p.progress.is_done ≡ false) → waits_for h (part_reaching q p) o ≡ true → waits_for h p o ≡ true
still_waits h p q None f e = absurd cc
still_waits h p q (Some m) f e =
    let parts = and_parts (not q.is_done) (is_pending m && bytes_eq m.handset h) e in
    and_from (not p.progress.is_done) (is_pending m && bytes_eq m.handset h) (ap (λ (b : Bool). not b) (f (not_true q.is_done parts.0))) parts.1
  where
    not_true : (b : Bool) → not b ≡ true → b ≡ false
    not_true true e = absurd cc
    not_true false e = refl

pub part_far_held : (s : Store) (p : PartRow) (q : Progress) → SoundHeld s → row_at part_key (part_key p) (parts_in s) ≡ Some p → (q.is_done ≡ false → p.progress.is_done ≡ false) → SoundHeld (with_part_at p q s)
part_far_held s p q held there done =
    let after : List PartRow = amended part_key part_reaching (part_key p) q (parts_in s) in
    let numbered : Numbered after = numbered_amended (part_key p) q (parts_in s) held.parts in
    let own = held.parts.numbers p (found_among part_key (part_key p) p (parts_in s) there) in
    record {
      allocations = held.allocations;
      parts = numbered;
      alone = held.alone;
      report_keys = held.report_keys;
      numbers = held.numbers;
      waiting = λ number.
          let w : List QueuedPart = waiting_in number s in
          let o : Option MessageRow = message_at p.id (messages_in s) in
          let changes = part_changes number (messages_in s) (priorities_in s) (parts_in s) after (reports_in s) (part_reaching q p) held.parts numbered held.alone
          (part_amended p q (parts_in s) there) (λ k ne. part_amended_other p q (parts_in s) k ne) in
          subst (λ (l : List QueuedPart). SoundWaiting (handset_at number (handsets_in s)) (references_in s) l) (sym changes)
          (wait_sound (handset_at number (handsets_in s)) (references_in s) w (part_key p) (part_wait number (messages_in s) (priorities_in s) (Some (part_reaching q p))) (held.waiting number)
          (λ l e. ⊎_elim
          (λ (t : waits_for number (part_reaching q p) o ≡ true).
          let is : Some (part_queued (part_reaching q p) (priorities_in s)) ≡ Some l = sym (cond-true (waits_for number (part_reaching q p) o) (Some (part_queued (part_reaching q p) (priorities_in s))) None t) ∙ e in
          let queued : part_queued (part_reaching q p) (priorities_in s) ≡ l = cc in
          let waited : row_at queued_key (part_key p) w ≡ Some (part_queued p (priorities_in s)) =
          part_waits_at number (messages_in s) (priorities_in s) (parts_in s) (reports_in s) p.id p.number held.parts own.0 own.1
          ∙ ap (λ (x : Option PartRow). part_wait number (messages_in s) (priorities_in s) x) there
          ∙ cond-true (waits_for number p o) (Some (part_queued p (priorities_in s))) None (still_waits number p q o done t) in
          let found : (was : QueuedPart) × ((row_at queued_key (part_key p) w ≡ Some was) × (queued_key was ≡ queued_key l) × (was.reference ≡ l.reference)) =
          (part_queued p (priorities_in s), (waited, ap queued_key queued, ap (λ (x : QueuedPart). x.reference) queued)) in found)
          (λ (t : waits_for number (part_reaching q p) o ≡ false).
          let bad : None ≡ Some l = sym (cond-false (waits_for number (part_reaching q p) o) (Some (part_queued (part_reaching q p) (priorities_in s))) None t) ∙ e in absurd cc)
          (cases_Bool (waits_for number (part_reaching q p) o))));
    }

-- ---- a report is so far, and none that was closed is open again

still_reports : (h : List ℕ) (r : ReportRow) (q : Progress) (o : Option MessageRow) → (q.is_done ≡ false → r.progress.is_done ≡ false) → reports_to h (report_reaching q r) o ≡ true → reports_to h r o ≡ true
still_reports h r q None f e = absurd cc
still_reports h r q (Some m) f e =
    let parts = and_parts (is_status r.kind && not q.is_done) (bytes_eq m.source.digits h) e in
    let kinds = and_parts (is_status r.kind) (not q.is_done) parts.0 in
    and_from (is_status r.kind && not r.progress.is_done) (bytes_eq m.source.digits h)
    (and_from (is_status r.kind) (not r.progress.is_done) kinds.0 (ap (λ (b : Bool). not b) (f (not_true q.is_done kinds.1)))) parts.1
  where
    not_true : (b : Bool) → not b ≡ true → b ≡ false
    not_true true e = absurd cc
    not_true false e = refl

pub report_far_held : (s : Store) (r : ReportRow) (q : Progress) → SoundHeld s → report_of r.id (reports_in s) ≡ Some r → (q.is_done ≡ false → r.progress.is_done ≡ false) → SoundHeld (with_report_at r q s)
report_far_held s r q held there done =
    let after : List ReportRow = amended report_key report_reaching (report_key r) q (reports_in s) in
    let alone : Alone after = amended_alone (report_key r) q (reports_in s) held.alone in
    record {
      allocations = held.allocations;
      parts = held.parts;
      alone = alone;
      report_keys = rises_amended report_key report_reaching (λ x y. refl) (report_key r) q (reports_in s) held.report_keys;
      numbers = held.numbers;
      waiting = λ number.
          let w : List QueuedPart = waiting_in number s in
          let o : Option MessageRow = message_at r.id (messages_in s) in
          let changes = report_changes number (messages_in s) (priorities_in s) (parts_in s) (reports_in s) after (report_reaching q r) held.parts held.alone alone
          (amended_own r q (reports_in s) there) (λ id ne. amended_other id r q (reports_in s) held.report_keys there ne) in
          subst (λ (l : List QueuedPart). SoundWaiting (handset_at number (handsets_in s)) (references_in s) l) (sym changes)
          (wait_sound (handset_at number (handsets_in s)) (references_in s) w (pair_key r.id 0) (report_wait number (messages_in s) (Some (report_reaching q r))) (held.waiting number)
          (λ l e. ⊎_elim
          (λ (t : reports_to number (report_reaching q r) o ≡ true).
          let is : Some (report_queued (report_reaching q r)) ≡ Some l = sym (cond-true (reports_to number (report_reaching q r) o) (Some (report_queued (report_reaching q r))) None t) ∙ e in
          let queued : report_queued (report_reaching q r) ≡ l = cc in
          let waited : row_at queued_key (pair_key r.id 0) w ≡ Some (report_queued r) =
          report_waits_at number (messages_in s) (priorities_in s) (parts_in s) (reports_in s) r.id held.parts held.alone
          ∙ ap (λ (x : Option ReportRow). report_wait number (messages_in s) x) there
          ∙ cond-true (reports_to number r o) (Some (report_queued r)) None (still_reports number r q o done t) in
          let found : (was : QueuedPart) × ((row_at queued_key (pair_key r.id 0) w ≡ Some was) × (queued_key was ≡ queued_key l) × (was.reference ≡ l.reference)) =
          (report_queued r, (waited, ap queued_key queued, ap (λ (x : QueuedPart). x.reference) queued)) in found)
          (λ (t : reports_to number (report_reaching q r) o ≡ false).
          let bad : None ≡ Some l = sym (cond-false (reports_to number (report_reaching q r) o) (Some (report_queued (report_reaching q r))) None t) ∙ e in absurd cc)
          (cases_Bool (reports_to number (report_reaching q r) o))));
    }

-- ---- a message ends

pub ended_held : (s : Store) (m : MessageRow) (state : FinalState) (moment : ℕ) → SoundHeld s → message_at m.id (messages_in s) ≡ Some m → SoundHeld (with_message (ended state moment m) s)
ended_held s m state moment held there = record {
  allocations = held.allocations;
  parts = held.parts;
  alone = held.alone;
  report_keys = held.report_keys;
  numbers = λ x among. ⊎_elim
      (λ (e : x ≡ ended state moment m).
      let is = held.numbers m (found_among message_key m.id m (messages_in s) there) in
      subst (λ (y : MessageRow). IsNumber y.handset) (sym e) is)
      (λ (k : Among x (messages_in s) × ¬ (message_key x ≡ message_key (ended state moment m))). held.numbers x k.0)
      (among_put message_key x (ended state moment m) (messages_in s) among);
  waiting = λ number.
      subst (λ (l : List QueuedPart). SoundWaiting (handset_at number (handsets_in s)) (references_in s) l)
      (sym (end_waits number (messages_in s) (priorities_in s) (parts_in s) (reports_in s) m state moment held.parts held.alone there))
      (withdrawn_sound (handset_at number (handsets_in s)) (references_in s) (waiting_in number s) m.id (held.waiting number));
}

-- ---- a message is new, without parts

pub entered_held : (s : Store) (m : MessageRow) (q : PriorityRow) → SoundHeld s → q.id ≡ m.id → ((n : ℕ) → part_at m.id n (parts_in s) ≡ None) → report_of m.id (reports_in s) ≡ None → IsNumber m.handset
    → SoundHeld (with_priority q (with_message m s))
entered_held s m q held own none free is = record {
  allocations = held.allocations;
  parts = held.parts;
  alone = held.alone;
  report_keys = held.report_keys;
  numbers = λ x among. ⊎_elim
      (λ (e : x ≡ m). subst (λ (y : MessageRow). IsNumber y.handset) (sym e) is)
      (λ (k : Among x (messages_in s) × ¬ (message_key x ≡ message_key m)). held.numbers x k.0)
      (among_put message_key x m (messages_in s) among);
  waiting = λ number.
      subst (λ (l : List QueuedPart). SoundWaiting (handset_at number (handsets_in s)) (references_in s) l)
      (sym (new_waits number (messages_in s) (priorities_in s) (parts_in s) (reports_in s) m q held.parts held.alone own none free)) (held.waiting number);
}
