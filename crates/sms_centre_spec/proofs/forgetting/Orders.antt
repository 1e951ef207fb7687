-- An order of a message that stays does the same without the messages that go.
use Rattle.std.proofs.Common.{◌≡◌, ℕ, Bool, false, Option, Some, None, refl, sym, ◌∙◌, ap, subst}
use Rattle.sms_rows.proofs.table.Tables.{found_key}
use Rattle.sms_centre_rows.specs.declared.messages.message.MessageRow.{MessageRow}
use Rattle.sms_centre_rows.specs.messages.Messages.{message_at, message_key}
use Rattle.sms_centre_spec.specs.declared.answer.CentreAnswer.TheVariants.{Queried}
use Rattle.sms_centre_spec.specs.declared.event.CentreEvent.TheVariants.{Ordered}
use Rattle.sms_centre_spec.specs.declared.order.Order.{Order}
use Rattle.sms_centre_spec.specs.declared.order.Order.TheVariants.{Retry, Delete}
use Rattle.sms_centre_spec.specs.CentreEvent.{happened}
use Rattle.sms_centre_spec.specs.Draft.{Core, Draft, Store, answer_with, draft_of, in_store, messages_in}
use Rattle.sms_centre_spec.specs.Orders.{message_due, ordered, retried}
use Rattle.sms_centre_spec.specs.Requests.{cancelled}
use Rattle.sms_centre_spec.specs.SoundRows.{IsSound}
use Rattle.sms_centre_spec.specs.forgetting.Forgot.{CanForget, Same, Stays, core_without, draft_without, store_without}
use Rattle.sms_centre_spec.proofs.forgetting.Answers.{Alike, followed}
use Rattle.sms_centre_spec.proofs.forgetting.Ended.{Pair}
use Rattle.sms_centre_spec.proofs.forgetting.Moves.{base_stays, message_look}
use Rattle.sms_centre_spec.proofs.forgetting.Sessions.{cancelled_alike}
use Rattle.sms_centre_spec.proofs.forgetting.Ticks.{message_pair}

module _ (goes : ℕ → Bool) where
  retried_alike : (o : Option MessageRow) (d : Draft) → Stays goes d.store → Alike goes (retried o (draft_without goes d)) (retried o d)
  retried_alike None d k = (refl, k)
  retried_alike (Some m) d k =
      let p : Pair goes (message_due m (store_without goes d.store)) (message_due m d.store) = message_pair goes m d.store k in
      (ap (λ (x : Store). answer_with (Queried m.id m.state m.done) (in_store x (draft_without goes d))) p.0, p.1)

  ordered_alike : (order : Order) (id : ℕ) (d : Draft) → Stays goes d.store → goes id ≡ false → Alike goes (ordered order id (draft_without goes d)) (ordered order id d)
  ordered_alike Retry id d k stays =
      subst (λ (o : Option MessageRow). Alike goes (retried o (draft_without goes d)) (ordered Retry id d)) (sym (message_look goes id d.store k stays))
      (retried_alike (message_at id (messages_in d.store)) d k)
  ordered_alike Delete id d k stays =
      subst (λ (o : Option MessageRow). Alike goes (cancelled o (draft_without goes d)) (ordered Delete id d)) (sym (message_look goes id d.store k stays))
      (cancelled_alike goes (message_at id (messages_in d.store)) d k (λ m e. ap goes (found_key message_key id m (messages_in d.store) e) ∙ stays))

  pub ordered_same : (order : Order) (id : ℕ) (c : Core) → IsSound c.rows → CanForget goes c → goes id ≡ false
      → Same goes (happened (Ordered order id) (core_without goes c)) (happened (Ordered order id) c)
  ordered_same order id c s can stays =
      followed goes (ordered order id (draft_without goes (draft_of c))) (ordered order id (draft_of c)) (ordered_alike order id (draft_of c) (base_stays goes c s can.may) stays)
