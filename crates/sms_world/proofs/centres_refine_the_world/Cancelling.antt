-- A cancel_sm, or an operator's order: the message is deleted and that is told, or nothing but the answer comes of it.
use Rattle.std.proofs.Common.{◌≡◌, ℕ, [], ◌∷◌, true, false, refl, inl, inr, Option, Some, None}
use Rattle.std.proofs.lemmas.Bool.{cond_both}
use Rattle.sms_base.specs.declared.final_state.FinalState.TheVariants.{Deleted}
use Rattle.smpp_pdu.specs.declared.cancel.CancelSm.{CancelSm}
use Rattle.smpp_pdu.specs.declared.status.CommandStatus.TheVariants.{ESME_RCANCELFAIL}
use Rattle.sms_intake.specs.SmppIntake.{is_empty}
use Rattle.sms_intake.specs.declared.submission.CentreAccount.{CentreAccount}
use Rattle.sms_centre_rows.specs.messages.Messages.{ended, is_pending, message_at}
use Rattle.sms_centre_rows.specs.declared.messages.message.MessageRow.{MessageRow}
use Rattle.sms_centre_spec.proofs.SoundEvents.{event_after}
use Rattle.sms_centre_spec.proofs.SoundStores.{SoundStore}
use Rattle.sms_centre_spec.proofs.Steady.{message_own, to_cancel_there}
use Rattle.sms_centre_spec.specs.Draft.{Draft, answer_with, draft_of, in_store, messages_in, with_message}
use Rattle.sms_centre_spec.specs.Ends.{end as end_message}
use Rattle.sms_centre_spec.specs.Requests.{account_at, cancel, cancel_by, cancelled, refused, to_cancel}
use Rattle.sms_centre_spec.specs.declared.answer.CentreAnswer.{CentreAnswer}
use Rattle.sms_centre_spec.specs.declared.answer.CentreAnswer.TheVariants.{Cancelled as CancelledAnswer}
use Rattle.sms_centre_spec.specs.declared.event.CentreEvent.TheVariants.{Cancel, Ordered}
use Rattle.sms_centre_spec.specs.declared.order.Order.TheVariants.{Delete as OrderDelete}
use Rattle.sms_centre_spec.specs.Orders.{ordered}
use Rattle.sms_world_model.specs.WorldStep.{end, Delete}
use Rattle.sms_world_model.specs.ScriptRun.{Cancelled, items}
use Rattle.sms_world_model.specs.World.{Final, World, changed}
use Rattle.sms_world.specs.centres_refine_the_world.CentreLaws.{CancelLaw, DeleteLaw}
use Rattle.sms_world.specs.centres_refine_the_world.CentreRefinement.{CentreRefines, StoreRefines}
use Rattle.sms_world.proofs.centres_refine_the_world.Ending.{can_end, end_is_reached, ended_refines, pending_in_world}
use Rattle.sms_world.proofs.centres_refine_the_world.Playing.{Acts, acts_lead, answer_refines, store_is_reached, agrees_follow}
use Rattle.sms_world.proofs.centres_refine_the_world.QuietEvents.{start}

-- nothing but an answer
answered_acts : (m : ℕ) (w : World) (a : CentreAnswer) (d : Draft) → CentreRefines w d w → Acts Cancelled m w (answer_with a d)
answered_acts m w a d s = record {
  own = [];
  follows = [];
  is_own = inl refl;
  may_follow = tt;
  own_centre = tt;
  follows_centre = tt;
  own_runs = tt;
  runs = tt;
  refines = answer_refines w a d w s;
}

deleted_acts : (m : MessageRow) (w : World) (d : Draft) → SoundStore d.store → CentreRefines w d w → message_at m.id (messages_in d.store) ≡ Some m → is_pending m ≡ true
    → Acts Cancelled d.store.moment w (answer_with CancelledAnswer (in_store (end_message Deleted m d.store) d))
deleted_acts m w d sound s there pending =
    let n : ℕ = d.store.moment in
    let v : World = record w { table = changed m.id (λ e. Final Deleted) w.table } in
    let refines : StoreRefines (with_message (ended Deleted n m) d.store) v = ended_refines Deleted m d.store w there (λ e. Final Deleted) (λ u st k. refl) s.rows in
    let told = end_is_reached Deleted m d.store v (can_end Deleted m d.store sound there pending refl) refines in
    let tells = agrees_follow Cancelled (λ x k. k) told.0 told.1.0 in
    let was = pending_in_world m d.store w s.rows there pending in
    record {
      own = Delete m.id ∷ [];
      follows = told.0;
      is_own = inr (m.id, refl);
      may_follow = tells.0;
      own_centre = (tt, tt);
      follows_centre = tells.1;
      own_runs = ((was.0, was.1, was.2.0), tt);
      runs = told.1.1;
      refines = answer_refines w CancelledAnswer (in_store (end_message Deleted m d.store) d) (end v (items n false told.0))
          (store_is_reached w (end_message Deleted m d.store) d w (end v (items n false told.0)) s told.1.2 told.1.3);
    }

cancelled_acts : (o : Option MessageRow) (w : World) (d : Draft) → SoundStore d.store → CentreRefines w d w → ((m : MessageRow) → o ≡ Some m → message_at m.id (messages_in d.store) ≡ Some m)
    → Acts Cancelled d.store.moment w (cancelled o d)
cancelled_acts None w d sound s there = answered_acts d.store.moment w _ d s
cancelled_acts (Some m) w d sound s there =
    cond_both (is_pending m) (answer_with CancelledAnswer (in_store (end_message Deleted m d.store) d)) (refused ESME_RCANCELFAIL d) (λ (e : Draft). Acts Cancelled d.store.moment w e)
    (λ t. deleted_acts m w d sound s (there m refl) t)
    (λ t. answered_acts d.store.moment w _ d s)

cancel_acts : (a : Option CentreAccount) (q : CancelSm) (w : World) (d : Draft) → SoundStore d.store → CentreRefines w d w → Acts Cancelled d.store.moment w (cancel_by a q d)
cancel_acts None q w d sound s = answered_acts d.store.moment w _ d s
cancel_acts (Some a) q w d sound s =
    let m : Option MessageRow = to_cancel a q (messages_in d.store) in
    cond_both (is_empty q.message_id) (refused ESME_RCANCELFAIL d) (cancelled m d) (λ (e : Draft). Acts Cancelled d.store.moment w e)
    (λ t. answered_acts d.store.moment w _ d s)
    (λ t. cancelled_acts m w d sound s (λ x e. to_cancel_there a q d.store x e))

pub cancel_event : CancelLaw
cancel_event account q c w sound s =
    let d : Draft = draft_of c in
    acts_lead Cancelled (λ x k. k) c.moment w (cancel account q d) (cancel_acts (account_at account c.rows.setup.accounts) q w d (start c sound) s)
    (event_after (Cancel account q) c sound tt tt).store.0

-- an operator's order is of whatever message has that number
pub delete_event : DeleteLaw
delete_event id c w sound s =
    let d : Draft = draft_of c in
    acts_lead Cancelled (λ x k. k) c.moment w (ordered OrderDelete id d)
    (cancelled_acts (message_at id (messages_in d.store)) w d (start c sound) s (λ m e. message_own id m d.store e))
    (event_after (Ordered OrderDelete id) c sound tt tt).store.0
