-- What waits for a handset has nothing of messages to other handsets.
use Rattle.std.proofs.Common.{◌≡◌, ◌⊎◌, ℕ, ◌<◌, List, Bool, true, false, Option, Some, None, refl, sym, ◌∙◌, ap, subst, inl, inr, ⊎_elim, bytes_eq}
use Rattle.std.specs.Prelude.{◌&&◌, not, if◌then◌else◌}
use Rattle.std.proofs.lemmas.Bool.{cases_eq, cond-false}
use Rattle.sms_base.proofs.OctetLaws.{differ}
use Rattle.sms_base.specs.declared.final_state.FinalState.{FinalState}
use Rattle.sms_rows.specs.table.Keys.{pair_key}
use Rattle.sms_rows.specs.table.Table.{row_at}
use Rattle.sms_centre_rows.specs.declared.messages.message.MessageRow.{MessageRow}
use Rattle.sms_centre_rows.specs.declared.messages.part.PartRow.{PartRow}
use Rattle.sms_centre_rows.specs.declared.messages.priority.PriorityRow.{PriorityRow}
use Rattle.sms_centre_rows.specs.messages.Messages.{ended, is_pending, message_at, part_at}
use Rattle.sms_centre_rows.specs.messages.OpenParts.{Numbered, part_queued, part_wait, waits_for}
use Rattle.sms_centre_rows.specs.declared.reports.report.ReportRow.{ReportRow}
use Rattle.sms_centre_rows.specs.reports.Waiting.{waiting_for}
use Rattle.sms_centre_rows.proofs.reports.AllWaiting.{part_waits_at, rises_all}
use Rattle.sms_centre_rows.proofs.reports.EndsWaiting.{end_waits, part_is}
use Rattle.sms_centre_rows.proofs.reports.FewWaiting.{all_few}
use Rattle.sms_centre_rows.specs.declared.waiting.queued_part.QueuedPart.{QueuedPart}
use Rattle.sms_centre_rows.specs.waiting.Keys.{queued_key}
use Rattle.sms_centre_rows.specs.waiting.Waiting.{withdrawn}
use Rattle.sms_centre_rows.proofs.waiting.Alike.{pairs_alike}
use Rattle.sms_centre_rows.proofs.waiting.Withdrawing.{rises_withdrawn, withdrawn_other, withdrawn_part}
use Rattle.sms_centre_rows.proofs.reports.WaitingChanges.{cases_number}
use Rattle.sms_centre_queue.specs.queues.Representing.{Waits}
use Rattle.sms_centre_spec.specs.Draft.{Store, messages_in, parts_in, priorities_in, reports_in, with_message}
use Rattle.sms_centre_spec.specs.Held.{SoundHeld}
use Rattle.sms_centre_draft.specs.CentreDraft.{all_waiting}

never : (a b : Bool) → (a && (b && false)) ≡ false
never true true = refl
never true false = refl
never false b = refl

-- ---- parts

pub part_elsewhere : (other : List ℕ) (ms : List MessageRow) (qs : List PriorityRow) (p : PartRow) (m : MessageRow) → message_at p.id ms ≡ Some m → ¬ (m.handset ≡ other) → part_wait other ms qs (Some p) ≡ None
part_elsewhere other ms qs p m of ne =
    ap (λ (o : Option MessageRow). if waits_for other p o then Some (part_queued p qs) else None) of
    ∙ cond-false (not p.progress.is_done && (is_pending m && bytes_eq m.handset other)) (Some (part_queued p qs)) None
    (ap (λ (b : Bool). not p.progress.is_done && (is_pending m && b)) (differ m.handset other ne) ∙ never (not p.progress.is_done) (is_pending m))

part_of_elsewhere : (other : List ℕ) (ms : List MessageRow) (qs : List PriorityRow) (ps : List PartRow) (m : MessageRow) (n : ℕ) → Numbered ps → message_at m.id ms ≡ Some m → ¬ (m.handset ≡ other) → n < 256
    → part_wait other ms qs (part_at m.id n ps) ≡ None
part_of_elsewhere other ms qs ps m n numbered there ne small = by (part_at m.id n ps) refl where
  by : (o : Option PartRow) → part_at m.id n ps ≡ o → part_wait other ms qs o ≡ None
  by None e = refl
  by (Some p) e =
      let is : p.id ≡ m.id = part_is ps m.id n p numbered small e in
      part_elsewhere other ms qs p m (ap (λ (k : ℕ). message_at k ms) is ∙ there) ne

-- ---- a message ends

ended_elsewhere : (other : List ℕ) (ms : List MessageRow) (qs : List PriorityRow) (ps : List PartRow) (rs : List ReportRow) (m : MessageRow) → Numbered ps → message_at m.id ms ≡ Some m → ¬ (m.handset ≡ other)
    → withdrawn m.id (waiting_for other ms qs ps rs) ≡ waiting_for other ms qs ps rs
ended_elsewhere other ms qs ps rs m numbered there ne =
    let w : List QueuedPart = waiting_for other ms qs ps rs in
    let few = all_few other ms qs ps rs numbered in
    let rises = rises_all other ms qs ps rs numbered in
    pairs_alike queued_key (withdrawn m.id w) w (rises_withdrawn m.id w rises) rises
    (λ i n small. ⊎_elim
    (λ (e : i ≡ m.id). ⊎_elim
    (λ (z : n ≡ 0). withdrawn_other m.id i n w few small (inr z))
    (λ (some : 0 < n).
    subst (λ (k : ℕ). row_at queued_key (pair_key k n) (withdrawn m.id w) ≡ row_at queued_key (pair_key k n) w) (sym e)
    (withdrawn_part m.id n w few some small
    ∙ sym (part_waits_at other ms qs ps rs m.id n numbered some small ∙ part_of_elsewhere other ms qs ps m n numbered there ne small)))
    (cases_number n))
    (λ (apart : i ≡ m.id → ⊥). withdrawn_other m.id i n w few small (inl apart))
    (cases_eq i m.id))

-- no part of it waits for its handset any more
pub ended_waits : (s : Store) (m : MessageRow) (f : FinalState) → SoundHeld s → message_at m.id (messages_in s) ≡ Some m
    → Waits m.handset (withdrawn m.id) (all_waiting s) (all_waiting (with_message (ended f s.moment m) s))
ended_waits s m f held there =
    let ms : List MessageRow = messages_in s in
    let qs : List PriorityRow = priorities_in s in
    let ps : List PartRow = parts_in s in
    let rs : List ReportRow = reports_in s in (
      end_waits m.handset ms qs ps rs m f s.moment held.parts held.alone there,
      λ other ne. end_waits other ms qs ps rs m f s.moment held.parts held.alone there ∙ ended_elsewhere other ms qs ps rs m held.parts there ne,
    )
