-- What a plan is good for, told of the rows with its changes.
use Rattle.std.proofs.Common.{◌≡◌, ℕ, List, Some, sym, ◌∙◌, subst, ap}
use Rattle.sms_base.specs.Among.{Among}
use Rattle.smpp_pdu.specs.declared.message.Message.{Message}
use Rattle.sms_centre_rows.specs.declared.messages.message.MessageRow.{MessageRow}
use Rattle.sms_centre_rows.specs.messages.Messages.{message_at}
use Rattle.sms_centre_rows.specs.declared.reports.delivery.Delivery.{Delivery}
use Rattle.sms_centre_rows.specs.declared.waiting.handset_link.Sent.{Sent}
use Rattle.sms_centre_spec.specs.declared.answer.CentreAnswer.TheVariants.{Submitted}
use Rattle.sms_centre_spec.specs.declared.event.CentreEvent.{CentreEvent}
use Rattle.sms_centre_spec.specs.declared.event.CentreEvent.TheVariants.{Submit}
use Rattle.sms_centre_spec.specs.declared.rows.Changes.{Changes}
use Rattle.sms_centre_spec.specs.declared.rows.Rows.{Rows}
use Rattle.sms_centre_spec.specs.CentreEvent.{happened}
use Rattle.sms_centre_spec.specs.Draft.{Core, rows_after, rows_of}
use Rattle.sms_centre_spec.specs.Keeping.{Keeps}
use Rattle.sms_centre_spec.specs.SoundCore.{Brings, IsEvent, IsReceiptRow, IsSoundCore}
use Rattle.sms_centre_spec.specs.SoundRows.{IsSound}
use Rattle.sms_centre_spec.proofs.Answered.{answer_names}
use Rattle.sms_centre_spec.proofs.EventLaws.{keeps_rows, sends_frames, sends_receipts, stays_sound}
use Rattle.sms_centre_spec.proofs.Resting.{happened_rests}
use Rattle.sms_centre.specs.declared.plans.event_outcome.EventOutcome.{EventOutcome}
use Rattle.sms_centre.specs.plans.EventOutcome.{IsOutcome}

module _ (event : CentreEvent) (c : Core) (p : EventOutcome) (k : IsOutcome (happened event c) p) where
  -- the rows with the changes are those after the event
  pub planned_rows : rows_after p.changes c.rows ≡ rows_of (happened event c).store
  planned_rows = ap (λ (x : Changes). rows_after x c.rows) k.changes ∙ happened_rests event c

  with_changes : (P : Rows → Type 0) → P (rows_of (happened event c).store) → P (rows_after p.changes c.rows)
  with_changes P x = subst P (sym planned_rows) x

  pub plan_sound : IsSoundCore c → IsEvent event → IsSound (rows_after p.changes c.rows)
  plan_sound s e = with_changes IsSound (stays_sound event c s e).rows

  pub plan_keeps : IsSoundCore c → IsEvent event → Keeps c.rows (rows_after p.changes c.rows)
  plan_keeps s e = with_changes (λ (r : Rows). Keeps c.rows r) (keeps_rows event c s e)

  pub plan_receipts : IsSoundCore c → IsEvent event → (x : Delivery) → Among x p.outputs.deliveries → IsReceiptRow (rows_after p.changes c.rows) x.id
  plan_receipts s e x there =
      with_changes (λ (r : Rows). IsReceiptRow r x.id) (sends_receipts event c s e x (subst (λ (xs : List Delivery). Among x xs) k.outputs.deliveries there))

  pub plan_frames : IsSoundCore c → IsEvent event → (f : Sent) → Among f p.outputs.frames → Brings f.handset f.frame.carried (rows_after p.changes c.rows)
  plan_frames s e f there =
      with_changes (λ (r : Rows). Brings f.handset f.frame.carried r) (sends_frames event c s e f (subst (λ (fs : List Sent). Among f fs) k.outputs.frames there))

-- the number in an answer to a submit_sm is that of a message of those rows
pub plan_answers : (account : ℕ) (message : Message) (c : Core) (p : EventOutcome) → IsOutcome (happened (Submit account message) c) p → (id : ℕ) → p.outputs.answer ≡ Some (Submitted id)
    → (row : MessageRow) × (message_at id (rows_after p.changes c.rows).messages ≡ Some row)
plan_answers account message c p k id answer =
    subst (λ (r : Rows). (row : MessageRow) × (message_at id r.messages ≡ Some row)) (sym (planned_rows (Submit account message) c p k))
    (answer_names account message c id (sym k.outputs.answer ∙ answer))
