-- The replies to a plan are those of the definition to the event.
use Rattle.std.proofs.Common.{◌≡◌, ap, ◌∙◌, ℕ, List, Option}
use Rattle.sms_centre.specs.plans.EventOutcome.{IsOutcome}
use Rattle.sms_centre.specs.declared.plans.event_outcome.EventOutcome.{EventOutcome}
use Rattle.sms_centre_spec.specs.CentreEvent.{happened}
use Rattle.sms_centre_spec.specs.Draft.{Core, messages_in, rows_after}
use Rattle.sms_centre_spec.specs.declared.answer.CentreAnswer.{CentreAnswer}
use Rattle.sms_centre_spec.specs.declared.event.CentreEvent.{CentreEvent}
use Rattle.sms_centre_spec.specs.declared.jobs.job.Job.{Job}
use Rattle.sms_keeper.specs.declared.machine.Stimulus.{Stimulus}
use Rattle.sms_centre_spec.specs.declared.rows.Changes.{Changes}
use Rattle.sms_centre_spec.specs.declared.rows.Rows.{Rows}
use Rattle.sms_centre_spec.proofs.Resting.{happened_rests}
use Rattle.sms_centre_rows.specs.messages.Messages.{message_key}
use Rattle.sms_centre_rows.specs.declared.messages.message.MessageRow.{MessageRow}
use Rattle.sms_centre_rows.specs.declared.reports.delivery.Delivery.{Delivery}
use Rattle.sms_rows.specs.table.Table.{all_applied}
use Rattle.sms_centre_rows.specs.declared.waiting.handset_link.Sent.{Sent}
use Rattle.smsc_service.specs.declared.seat_map.LinkSeat.{LinkSeat}
use Rattle.smsc_service.specs.Seats.{Seats}
use Rattle.smsc_service.specs.Replies.{replies_at, seat_answer}

module _ (event : CentreEvent) (c : Core) (p : EventOutcome) (k : IsOutcome (happened event c) p) where
  messages_then : all_applied message_key p.changes.messages c.rows.messages ≡ messages_in (happened event c).store
  messages_then = ap (λ (x : Changes). (rows_after x c.rows).messages) k.changes ∙ ap (λ (r : Rows). r.messages) (happened_rests event c)

  pub told_is : (risen : Option (List ℕ)) (seat : ℕ) (links : List LinkSeat) (stimulus : Stimulus Job) (told : Option CentreAnswer) → told ≡ seat_answer stimulus p.outputs.answer
      → replies_at risen seat links told p.outputs.frames (all_applied message_key p.changes.messages c.rows.messages) p.outputs.deliveries
      ≡ replies_at risen seat links (seat_answer stimulus (happened event c).answer) (happened event c).links.frames (messages_in (happened event c).store) (happened event c).bindings.deliveries
  told_is risen seat links stimulus told is =
      let after : List MessageRow = all_applied message_key p.changes.messages c.rows.messages in
      let answer : Option CentreAnswer = seat_answer stimulus (happened event c).answer in
      ap (λ (a : Option CentreAnswer). replies_at risen seat links a p.outputs.frames after p.outputs.deliveries) (is ∙ ap (λ (a : Option CentreAnswer). seat_answer stimulus a) k.outputs.answer)
      ∙ ap (λ (fs : List Sent). replies_at risen seat links answer fs after p.outputs.deliveries) k.outputs.frames
      ∙ ap (λ (ms : List MessageRow). replies_at risen seat links answer (happened event c).links.frames ms p.outputs.deliveries) messages_then
      ∙ ap (λ (ds : List Delivery). replies_at risen seat links answer (happened event c).links.frames (messages_in (happened event c).store) ds) k.outputs.deliveries

pub told_where : (risen there : Option (List ℕ)) (seat at : ℕ) (s t : Seats) (answer : Option CentreAnswer) (frames : List Sent) (messages : List MessageRow) (ds : List Delivery) → risen ≡ there → seat ≡ at → s ≡ t
    → replies_at risen seat s.links answer frames messages ds ≡ replies_at there at t.links answer frames messages ds
told_where risen there seat at s t answer frames messages ds same_risen same_seat same =
    ap (λ (x : Option (List ℕ)). replies_at x seat s.links answer frames messages ds) same_risen
    ∙ ap (λ (x : ℕ). replies_at there x s.links answer frames messages ds) same_seat
    ∙ ap (λ (x : Seats). replies_at there at x.links answer frames messages ds) same
