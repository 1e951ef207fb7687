-- The front of a submit_sm refuses first.
use Rattle.std.proofs.Common.{◌≡◌, ℕ, Err, refl}
use Rattle.smpp_pdu.specs.declared.message.Message.{Message}
use Rattle.smpp_pdu.specs.declared.status.CommandStatus.{CommandStatus}
use Rattle.sms_intake.specs.SmppIntake.{from_pdu, front_in, judged_in}
use Rattle.sms_intake.specs.declared.submission.CentreAccount.{CentreAccount}

pub front_first : (account : CentreAccount) (now : ℕ) (m : Message) (status : CommandStatus) → front_in account m ≡ Err status → from_pdu account now m ≡ Err status
unfolding from_pdu judged_in
front_first account now m status e = rw e refl
