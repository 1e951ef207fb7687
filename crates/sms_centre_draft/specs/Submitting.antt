-- What a submission is reached with, and what it leads to.
use Rattle.std.specs.Prelude.{◌≡◌, ℕ, ◌<◌, ◌≤◌, List, Bool, true, false, Option, Some, None}
use Rattle.sms_base.specs.Among.{Among}
use Rattle.sms_centre_rows.specs.declared.messages.message.MessageRow.{MessageRow}
use Rattle.sms_centre_rows.specs.messages.Messages.{is_pending, message_at, part_at, priority_of}
use Rattle.sms_intake.specs.declared.submission.SinglePart.{SinglePart}
use Rattle.sms_intake.specs.declared.submission.Submission.{Submission}
use Rattle.sms_centre_spec.specs.Draft.{Draft, Store, in_store, messages_in, parts_in, priorities_in}
use Rattle.sms_centre_spec.specs.Consistent.{IsBody}
use Rattle.sms_centre_draft.specs.CentreDraft.{Represents, CentreDraftOf}

-- no message has that number or a greater one
abbrev pub IsNewId : ℕ → Store → Type 0
IsNewId id s = (m : MessageRow) → Among m (messages_in s) → m.id < id

-- each of them is user data of the submission
abbrev pub AreBodies : Submission → List SinglePart → Type 0
AreBodies u bodies = (b : SinglePart) → Among b bodies → IsBody u b

-- The submission's message is there with its priority, and its parts from that number on are still to be given.
pub record CanGive (id : ℕ) (u : Submission) (number : ℕ) (s : Store) : Type 0 where
  pub message : (m : MessageRow) × ((message_at id (messages_in s) ≡ Some m) × (m.id ≡ id) × (m.handset ≡ u.handset) × (is_pending m ≡ true))
  pub priority : priority_of id (priorities_in s) ≡ u.priority
  pub first : 0 < number
  pub not_given : (n : ℕ) → number ≤ n → n < 256 → part_at id n (parts_in s) ≡ None

-- It was accepted, and the draft with it is represented; or it can't be, and nothing has changed.
abbrev pub Accepts : Option Store → Draft → CentreDraftOf → Bool → Type 0
Accepts None d w true = ⊥
Accepts None d w false = Represents d w
Accepts (Some s) d w true = Represents (in_store s d) w
Accepts (Some s) d w false = ⊥
