-- A SUBMIT is confirmed, or refused for want of references.
use Rattle.std.proofs.Common.{◌≡◌, ℕ, List, Option, Some, None, subst}
use Rattle.sms_base.specs.declared.holder.Holder.{Holder}
use Rattle.sms_intake.specs.declared.refusal.SubmitRefusal.TheVariants.{Congested}
use Rattle.sms_centre_spec.specs.Draft.{Draft, Store, in_store}
use Rattle.sms_centre_spec.specs.Receiving.{confirm, refuse, submit_accepted}
use Rattle.sms_centre_events.specs.Answering.{AcceptsAs}
use Rattle.sms_centre_draft.specs.CentreDraft.{Represents, CentreDraftOf}

module _ (handset : List ℕ) (reference : ℕ) (tag : Holder) (d : Draft) (w : CentreDraftOf) (number : ℕ) (P : Draft → Type 0) where
  by_number : (id : ℕ) (o : Option Store) → AcceptsAs number o d w (Some id) → ((s : Store) → Represents (in_store s d) w → P (confirm handset reference tag (in_store s d)))
      → P (submit_accepted handset reference tag o d)
  by_number id None a answers = absurd a
  by_number id (Some s) a answers = answers s a.1

  pub confirmed : {id : ℕ} (b : Option ℕ) (o : Option Store) → b ≡ Some id → AcceptsAs number o d w b → ((s : Store) → Represents (in_store s d) w → P (confirm handset reference tag (in_store s d)))
      → P (submit_accepted handset reference tag o d)
  confirmed {id = id} b o is a answers = by_number id o (subst (λ (x : Option ℕ). AcceptsAs number o d w x) is a) answers

  pub none_free : (o : Option Store) → AcceptsAs number o d w None → (Represents d w → P (refuse handset reference tag Congested d)) → P (submit_accepted handset reference tag o d)
  none_free None a answers = answers a
  none_free (Some s) a answers = absurd a
