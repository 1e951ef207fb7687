-- What becomes of messages that the centre split.
use Rattle.std.specs.Prelude.{◌≡◌, ℕ, true, List, Some, Ok}
use Rattle.smpp_pdu.specs.declared.message.Message.{Message}
use Rattle.sms_concat.specs.declared.content.Content.{Content}
use Rattle.sms_concat.specs.declared.content.Part.{Part as PartOf}
use Rattle.sms_concat.specs.Joining.{content_joined}
use Rattle.sms_concat.specs.Splitting.{IsSplit}
use Rattle.sms_intake.specs.declared.submission.CentreAccount.{CentreAccount}
use Rattle.sms_intake.specs.declared.submission.Submission.{Submission}
use Rattle.sms_intake.specs.declared.submission.Text.TheVariants.{Whole}
use Rattle.sms_intake.specs.PartBodies.{is_long}
use Rattle.sms_intake.specs.SmppIntake.{from_pdu}
use Rattle.sms_centre_rows.specs.declared.messages.message.MessageRow.{MessageRow}
use Rattle.sms_centre_rows.specs.messages.Messages.{message_at}
use Rattle.sms_centre_spec.specs.declared.event.CentreEvent.{CentreEvent}
use Rattle.sms_centre_spec.specs.declared.event.CentreEvent.TheVariants.{Submit}
use Rattle.sms_centre_spec.specs.CentreEvent.{happened}
use Rattle.sms_centre_spec.specs.Draft.{Core, messages_in, parts_in}
use Rattle.sms_centre_spec.specs.MessageNumbers.{next_number}
use Rattle.sms_centre_spec.specs.Requests.{account_at}
use Rattle.sms_centre_spec.specs.SoundCore.{IsEvent, IsSoundCore}
use Rattle.sms_world.specs.headline.SplitClaims.{IsSplitOf, AllSplitUnder}

abbrev pub EventLaw : Type 0
EventLaw =
    (event : CentreEvent) (c : Core) → IsSoundCore c → IsEvent event → AllSplitUnder c.rows.messages c.rows.parts
    → AllSplitUnder (messages_in (happened event c).store) (parts_in (happened event c).store)

-- The PDU of that account reads as a submission of a content that no part holds. If it becomes a message, that is the content, split.
abbrev pub TextLaw : Type 0
TextLaw =
    (place : ℕ) (pdu : Message) (c : Core) (account : CentreAccount) (u : Submission) (content : Content) → IsSoundCore c
    → account_at place c.rows.setup.accounts ≡ Some account → from_pdu account c.moment pdu ≡ Ok u → u.text ≡ Whole content → is_long u.text ≡ true
    → (m : MessageRow) → message_at (next_number c.rows) (messages_in (happened (Submit place pdu) c).store) ≡ Some m
    → (reference : ℕ) × ((m.split_reference ≡ Some reference) × IsSplitOf m content reference (parts_in (happened (Submit place pdu) c).store))

-- and the message of that number is so after every event
abbrev pub StaysLaw : Type 0
StaysLaw =
    (event : CentreEvent) (c : Core) (m : MessageRow) (content : Content) (reference : ℕ) → IsSoundCore c → IsEvent event
    → message_at m.id c.rows.messages ≡ Some m
    → IsSplitOf m content reference c.rows.parts
    → (x : MessageRow) × ((message_at m.id (messages_in (happened event c).store) ≡ Some x) × IsSplitOf x content reference (parts_in (happened event c).store))

abbrev pub PiecesLaw : Type 0
PiecesLaw = (content : Content) (reference : ℕ) (pieces : List PartOf) → IsSplit content reference pieces → content_joined pieces ≡ Some content
