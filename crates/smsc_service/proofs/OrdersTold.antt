-- What is told of an order is what the message was.
use Rattle.std.proofs.Common.{◌≡◌, ℕ, Bool, true, false, Option, Some, None, refl, ◌∙◌, ap, sym}
use Rattle.std.specs.Prelude.{if◌then◌else◌}
use Rattle.std.proofs.lemmas.Bool.{cond-false, cond-true}
use Rattle.sms_base.specs.declared.final_state.FinalState.{FinalState}
use Rattle.sms_base.specs.declared.final_state.FinalState.TheVariants.{Delivered, Expired, Deleted as DeletedState, Undeliverable}
use Rattle.sms_centre_rows.specs.declared.messages.message.MessageRow.{MessageRow}
use Rattle.sms_centre_rows.specs.messages.Messages.{is_pending, message_at}
use Rattle.sms_centre_spec.specs.declared.event.CentreEvent.TheVariants.{Ordered}
use Rattle.sms_centre_spec.specs.declared.answer.CentreAnswer.TheVariants.{Queried}
use Rattle.sms_centre_spec.specs.declared.order.Order.{Order}
use Rattle.sms_centre_spec.specs.declared.order.Order.TheVariants.{Retry, Delete}
use Rattle.sms_centre_spec.specs.CentreEvent.{happened}
use Rattle.sms_centre_spec.specs.Draft.{Core}
use Rattle.sms_centre_spec.proofs.OrdersDone.{delete_does, delete_fails, none_ordered, retry_does}
use Rattle.smsc_service.specs.declared.order_desk.OrderOutcome.{OrderOutcome}
use Rattle.smsc_service.specs.declared.order_desk.OrderOutcome.TheVariants.{Waits, Ended, Deleted, HasEnded, Unknown, Enrolled, Failed}
use Rattle.smsc_service.specs.Outcomes.{number_of, of_state, outcome_at, outcome_for, told_by}

none_told : (order : Order) (id : ℕ) (c : Core) → message_at id c.rows.messages ≡ None
    → told_by (happened (Ordered order id) c).answer ≡ outcome_for (message_at id c.rows.messages) order
none_told order id c e =
    ap told_by (none_ordered order id c e).1 ∙ sym (ap (λ (o : Option MessageRow). outcome_for o order) e)

retry_told : (id : ℕ) (c : Core) (m : MessageRow) → message_at id c.rows.messages ≡ Some m
    → told_by (happened (Ordered Retry id) c).answer ≡ outcome_for (message_at id c.rows.messages) Retry
retry_told id c m e =
    ap told_by (retry_does id c m e).1 ∙ sym (ap (λ (o : Option MessageRow). outcome_for o Retry) e)

delete_told : (id : ℕ) (c : Core) (m : MessageRow) (b : Bool) → message_at id c.rows.messages ≡ Some m → is_pending m ≡ b
    → told_by (happened (Ordered Delete id) c).answer ≡ outcome_for (message_at id c.rows.messages) Delete
delete_told id c m true e is =
    ap told_by (delete_does id c m e is).1
    ∙ sym (ap (λ (o : Option MessageRow). outcome_for o Delete) e ∙ cond-true (is_pending m) Deleted HasEnded is)
delete_told id c m false e is =
    ap told_by (delete_fails id c m e is).1
    ∙ sym (ap (λ (o : Option MessageRow). outcome_for o Delete) e ∙ cond-false (is_pending m) Deleted HasEnded is)

pub order_told : (order : Order) (id : ℕ) (c : Core) → told_by (happened (Ordered order id) c).answer ≡ outcome_for (message_at id c.rows.messages) order
order_told order id c = by order (message_at id c.rows.messages) refl where
  by : (x : Order) (o : Option MessageRow) → message_at id c.rows.messages ≡ o
      → told_by (happened (Ordered x id) c).answer ≡ outcome_for (message_at id c.rows.messages) x
  by x None e = none_told x id c e
  by Retry (Some m) e = retry_told id c m e
  by Delete (Some m) e = delete_told id c m (is_pending m) e refl

pub outcome_kept : (outcome : OrderOutcome) → outcome_at (number_of outcome) ≡ outcome
outcome_kept Failed = refl
outcome_kept Waits = refl
outcome_kept Deleted = refl
outcome_kept HasEnded = refl
outcome_kept Unknown = refl
outcome_kept (Ended Delivered) = refl
outcome_kept (Ended Expired) = refl
outcome_kept (Ended DeletedState) = refl
outcome_kept (Ended Undeliverable) = refl
outcome_kept Enrolled = refl
