-- What becomes of what applications submit.
use Rattle.std.specs.Prelude.{◌≡◌, ◌⊎◌, ℕ, ◌≤◌, List, length, Some, None, Ok}
use Rattle.smpp_pdu.specs.declared.message.Message.{Message}
use Rattle.sms_concat.specs.declared.content.Content.{Content}
use Rattle.sms_concat.specs.UserData.{capacity}
use Rattle.sms_intake.specs.declared.submission.CentreAccount.{CentreAccount}
use Rattle.sms_intake.specs.declared.submission.Submission.{Submission}
use Rattle.sms_intake.specs.declared.submission.Text.TheVariants.{Whole}
use Rattle.sms_intake.specs.SmppIntake.{from_pdu}
use Rattle.sms_centre_rows.specs.declared.messages.message.MessageRow.{MessageRow}
use Rattle.sms_centre_rows.specs.declared.messages.part.PartRow.{PartRow}
use Rattle.sms_centre_rows.specs.messages.Messages.{message_at, part_at}
use Rattle.sms_centre_spec.specs.declared.event.CentreEvent.{CentreEvent}
use Rattle.sms_centre_spec.specs.declared.event.CentreEvent.TheVariants.{Submit}
use Rattle.sms_centre_spec.specs.CentreEvent.{happened}
use Rattle.sms_centre_spec.specs.Draft.{Core, messages_in, parts_in}
use Rattle.sms_centre_spec.specs.Requests.{account_at}
use Rattle.sms_centre_spec.specs.SoundCore.{IsEvent, IsSoundCore}
use Rattle.sms_tpdu.specs.MoreMessages.{compared}
use Rattle.sms_world_model.specs.Place.{carried_in}
use Rattle.sms_world.specs.headline.Origins.{IsSubmitted}

-- Each message that is there after a submit_sm was there before, or the PDU of the account reads as a submission, and it is that.
abbrev pub MadeLaw : Type 0
MadeLaw =
    (place : ℕ) (pdu : Message) (c : Core) (m : MessageRow) → IsSoundCore c → message_at m.id (messages_in (happened (Submit place pdu) c).store) ≡ Some m
    → (message_at m.id c.rows.messages ≡ Some m)
    ⊎ ((account : CentreAccount) × (u : Submission)
    × ((account_at place c.rows.setup.accounts ≡ Some account) × (from_pdu account c.moment pdu ≡ Ok u)
    × IsSubmitted u m (parts_in (happened (Submit place pdu) c).store)))

-- A message that is a submission is so after every event.
abbrev pub StaysLaw : Type 0
StaysLaw =
    (event : CentreEvent) (c : Core) (m : MessageRow) (u : Submission) → IsSoundCore c → IsEvent event → message_at m.id c.rows.messages ≡ Some m
    → IsSubmitted u m c.rows.parts
    → (x : MessageRow) × ((message_at m.id (messages_in (happened event c).store) ≡ Some x) × IsSubmitted u x (parts_in (happened event c).store))

-- Where an application submitted a text that one part holds, without a header, that part carries the text and nothing else.
abbrev pub AloneLaw : Type 0
AloneLaw =
    (account : CentreAccount) (moment : ℕ) (pdu : Message) (u : Submission) (content : Content) (m : MessageRow) (parts : List PartRow)
    → from_pdu account moment pdu ≡ Ok u → u.text ≡ Whole content → length content.units ≤ capacity content.coding → IsSubmitted u m parts
    → (p : PartRow) × ((part_at m.id 1 parts ≡ Some p) × (carried_in (compared p.tpdu) ≡ Some (record { content = content; key = None })))
