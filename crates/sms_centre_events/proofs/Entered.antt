-- A submission that was accepted, or not, is answered as the definition says.
use Rattle.std.proofs.Common.{◌≡◌, ℕ, List, true, false, Option, Some, None, refl, subst}
use Rattle.std.proofs.lemmas.Bool.{cond-false}
use Rattle.smpp_pdu.specs.declared.status.CommandStatus.TheVariants.{ESME_RMSGQFUL}
use Rattle.sms_base.specs.declared.originator.Originator.{Originator}
use Rattle.sms_base.specs.declared.originator.Originator.TheVariants.{Application, Handset}
use Rattle.sms_centre_rows.specs.declared.messages.message.MessageRow.{MessageRow}
use Rattle.sms_centre_rows.specs.declared.waiting.queued_part.QueuedPart.{QueuedPart}
use Rattle.sms_intake.specs.declared.submission.Submission.{Submission}
use Rattle.sms_centre_spec.specs.declared.answer.CentreAnswer.TheVariants.{Submitted}
use Rattle.sms_centre_spec.specs.Draft.{Draft, Store, answer_with, in_store, messages_in, waiting_in}
use Rattle.sms_centre_spec.specs.Requests.{accepted, refused}
use Rattle.sms_centre_spec.specs.Shares.{takes_too_much, unless_too_much}
use Rattle.sms_centre_events.specs.Answering.{AcceptsAs, IsOfHandset}
use Rattle.sms_centre_draft.specs.Submitting.{Accepts}
use Rattle.sms_centre_draft.specs.CentreDraft.{Represents, CentreDraftOf}

module _ (d : Draft) (w : CentreDraftOf) where
  -- under its number
  pub numbered_as : (id : ℕ) (o : Option Store) → Accepts o d w true → AcceptsAs id o d w (Some id)
  numbered_as id None a = absurd a
  numbered_as id (Some s) a = (refl, a)

  pub not_numbered : (id : ℕ) (o : Option Store) → Accepts o d w false → AcceptsAs id o d w None
  not_numbered id None a = a
  not_numbered id (Some s) a = absurd a

  -- answered to an application
  pub submitted : (number id : ℕ) (o : Option Store) (after : CentreDraftOf) → AcceptsAs number o d w (Some id) → ((s : Store) → Represents (in_store s d) w → Represents (answer_with (Submitted id) (in_store s d)) after)
      → Represents (accepted number o d) after
  submitted number id None after a answers = absurd a
  submitted number id (Some s) after a answers = subst (λ (n : ℕ). Represents (answer_with (Submitted n) (in_store s d)) after) a.0 (answers s a.1)

  pub not_submitted : (number : ℕ) (o : Option Store) (after : CentreDraftOf) → AcceptsAs number o d w None → (Represents d w → Represents (refused ESME_RMSGQFUL d) after) → Represents (accepted number o d) after
  not_submitted number None after a answers = answers a
  not_submitted number (Some s) after a answers = absurd a

-- a handset has no account that could hold too much
never_too_much : (o : Originator) (ms : List MessageRow) (ls : List QueuedPart) → IsOfHandset o → takes_too_much o ms ls ≡ false
never_too_much (Application account) ms ls of = absurd of
never_too_much (Handset reference) ms ls of = refl

pub of_handset : (u : Submission) (o : Option Store) → IsOfHandset u.originator → unless_too_much u o ≡ o
of_handset u None of = refl
of_handset u (Some s) of =
    cond-false (takes_too_much u.originator (messages_in s) (waiting_in u.handset s)) None (Some s) (never_too_much u.originator (messages_in s) (waiting_in u.handset s) of)
