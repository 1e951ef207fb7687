-- What query_sm and cancel_sm are answered (SMPP v3.4 4.8, 4.9), event by event.
use Rattle.std.specs.Prelude.{◌≡◌, ◌++◌, ◌∷◌, ℕ, List, [], Some, None, true}
use Rattle.smpp_pdu.specs.declared.status.CommandStatus.TheVariants.{ESME_ROK}
use Rattle.sms_base.specs.declared.final_state.FinalState.TheVariants.{Deleted}
use Rattle.sms_centre_rows.specs.declared.messages.message.MessageRow.{MessageRow}
use Rattle.sms_centre_rows.specs.messages.Messages.{ended, message_at, message_key}
use Rattle.sms_centre_rows.specs.reports.Receipts.{is_account}
use Rattle.sms_centre_spec.specs.Numbers.{id_in}
use Rattle.sms_centre_spec.specs.Requests.{account_at}
use Rattle.sms_intake.specs.declared.submission.CentreAccount.{CentreAccount}
use Rattle.sms_play.specs.CentreSide.{state_of}
use Rattle.sms_play.specs.Meeting.{account_from}
use Rattle.sms_play.specs.PlayState.{PlayState}
use Rattle.sms_rows.specs.table.Table.{put}
use Rattle.sms_script.specs.declared.event.Act.TheVariants.{Cancel, Query}
use Rattle.sms_script.specs.declared.event.WorldEvent.{WorldEvent}
use Rattle.sms_script.specs.declared.event.WorldEvent.TheVariants.{Whole}
use Rattle.sms_script.specs.declared.report.answers.Answered.{Answered}
use Rattle.sms_script.specs.declared.report.answers.Answered.TheVariants.{Found, Status}
use Rattle.sms_centre_rows.specs.declared.report_lines.MessageState.{MessageState}

-- the event of that number, which led from the one play state to the other, was answered so
abbrev pub IsAnswered : ℕ → PlayState → PlayState → Answered → Type 0
IsAnswered number c d answered = d.answers ≡ c.answers ++ record { event = number; answered = answered } ∷ []

-- The row is that of the message which the text names, and the message is of the account of that name.
pub record IsNamedBy (name text : List ℕ) (c : PlayState) (m : MessageRow) : Type 0 where
  pub place : ℕ
  pub account : CentreAccount
  pub named : account_from 0 name c.centre.rows.setup.accounts ≡ Some place
  pub its : account_at place c.centre.rows.setup.accounts ≡ Some account
  pub number : ℕ
  pub reads : id_in text ≡ Some number
  pub there : message_at number c.centre.rows.messages ≡ Some m
  pub own : is_account account.name m.originator ≡ true

-- A query_sm changes no message. The state that it finds is that of the message's line in the report of the events before it.
pub record IsQueried (number : ℕ) (name text : List ℕ) (c d : PlayState) : Type 0 where
  pub same : d.centre.rows.messages ≡ c.centre.rows.messages
  pub found : (state : MessageState) → IsAnswered number c d (Found state)
      → (m : MessageRow) × (IsNamedBy name text c m × (state_of m.state ≡ state))

-- A cancel_sm that is answered ESME_ROK ends the message that it names, which was pending, as DELETED, and changes no other. One that is
-- answered otherwise changes none.
pub record IsCancelled (number : ℕ) (name text : List ℕ) (c d : PlayState) : Type 0 where
  pub done : IsAnswered number c d (Status ESME_ROK)
      → (m : MessageRow)
      × (IsNamedBy name text c m × (m.state ≡ None)
      × (d.centre.rows.messages ≡ put message_key (ended Deleted c.centre.moment m) c.centre.rows.messages))
  pub refused : (answered : Answered) → IsAnswered number c d answered → ¬ (answered ≡ Status ESME_ROK)
      → d.centre.rows.messages ≡ c.centre.rows.messages

abbrev pub RequestsAreTrue : ℕ → WorldEvent → PlayState → PlayState → Type 0
RequestsAreTrue number (Whole (Query name text)) c d = IsQueried number name text c d
RequestsAreTrue number (Whole (Cancel name text)) c d = IsCancelled number name text c d
RequestsAreTrue number _ c d = Unit {0}
