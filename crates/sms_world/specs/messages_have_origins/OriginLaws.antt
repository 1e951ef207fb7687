-- The claims of the origin of messages, of every script.
use Rattle.std.specs.Prelude.{◌≡◌, ℕ, List, ◌∷◌, Some, Ok}
use Rattle.sms_intake.specs.declared.submission.CentreAccount.{CentreAccount}
use Rattle.sms_intake.specs.declared.submission.Submission.{Submission}
use Rattle.sms_intake.specs.SmppIntake.{from_pdu}
use Rattle.sms_centre_rows.specs.declared.messages.message.MessageRow.{MessageRow}
use Rattle.sms_centre_rows.specs.messages.Messages.{message_at}
use Rattle.sms_centre_spec.specs.declared.event.CentreEvent.TheVariants.{Submit as CentreSubmit}
use Rattle.sms_centre_spec.specs.CentreEvent.{happened}
use Rattle.sms_centre_spec.specs.Draft.{messages_in}
use Rattle.sms_centre_spec.specs.MessageNumbers.{next_number}
use Rattle.sms_centre_spec.specs.Requests.{account_at}
use Rattle.sms_play.specs.PlayState.{PlayState}
use Rattle.sms_play.specs.Meeting.{account_from}
use Rattle.sms_script.specs.Requests.{submit_of}
use Rattle.sms_play.specs.Setups.{beginning}
use Rattle.sms_script.specs.declared.event.Submission.{Submission as ScriptSubmission}
use Rattle.sms_script.specs.declared.event.WorldEvent.{WorldEvent}
use Rattle.sms_script.specs.declared.script.Script.{Script}
use Rattle.sms_world.specs.headline.Claims.{AllTimely}
use Rattle.sms_world.specs.headline.HeadlineLaws.{IsScript, LeadsOn}
use Rattle.sms_world.specs.headline.SplitClaims.{Submits}
use Rattle.sms_world.specs.headline.Origins.{IsSubmitted, AreFromEvents, LinesDelivered, ReportedDelivered}

abbrev pub OriginLaw : Type 0
OriginLaw =
    (script : Script) (some others : List WorldEvent) (c d : PlayState) → IsScript script some others → LeadsOn script some c d
    → AreFromEvents script.setup some c

abbrev pub SubmitLaw : Type 0
SubmitLaw =
    (script : Script) (some others : List WorldEvent) (e : WorldEvent) (s : ScriptSubmission) (c d : PlayState) (place : ℕ) (account : CentreAccount)
    (u : Submission)
    → IsScript script some (e ∷ others) → LeadsOn script some c d → Submits e s → account_from 0 s.name c.centre.rows.setup.accounts ≡ Some place
    → account_at place c.centre.rows.setup.accounts ≡ Some account → from_pdu account c.centre.moment (submit_of s) ≡ Ok u
    → (m : MessageRow) → message_at (next_number c.centre.rows) (messages_in (happened (CentreSubmit place (submit_of s)) c.centre).store) ≡ Some m
    → (x : MessageRow) × ((message_at m.id d.centre.rows.messages ≡ Some x) × IsSubmitted u x d.centre.rows.parts)

abbrev pub DeliveredLaw : Type 0
DeliveredLaw =
    (script : Script) (some others : List WorldEvent) (c d : PlayState) → IsScript script some others → LeadsOn script some c d
    → AllTimely 1 some (beginning script.setup)
    → ReportedDelivered script.setup some c × LinesDelivered script.setup some c
