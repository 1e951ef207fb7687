-- A submit_sm that passed all checks has units of its coding.
use Rattle.std.proofs.Common.{◌≡◌, ℕ, Ok}
use Rattle.smpp_pdu.specs.declared.message.Message.{Message}
use Rattle.sms_intake.specs.declared.submission.CentreAccount.{CentreAccount}
use Rattle.sms_intake.specs.declared.submission.Submission.{Submission}
use Rattle.sms_intake.specs.declared.submission.Text.{Text}
use Rattle.sms_intake.specs.declared.submission.Text.TheVariants.{Single, Whole}
use Rattle.sms_intake.specs.PartBodies.{HasUnits}
use Rattle.sms_intake.specs.SmppIntake.{from_pdu}
use Rattle.sms_centre_spec.proofs.TextContents.{IsText, pdu_is}

text_units : (text : Text) → IsText text → HasUnits text
text_units (Whole content) is = is.units
text_units (Single part) is = tt

pub pdu_units : (account : CentreAccount) (now : ℕ) (m : Message) (u : Submission) → from_pdu account now m ≡ Ok u → HasUnits u.text
pdu_units account now m u e = text_units u.text (pdu_is account now m u e)
