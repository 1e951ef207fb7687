-- A submit_sm is refused by what is judged of it.
use Rattle.std.proofs.Common.{◌≡◌, ℕ, Result, Ok, Err, refl}
use Rattle.sms_base.specs.Reading.{◌>>=◌}
use Rattle.smpp_pdu.specs.declared.message.Message.{Message}
use Rattle.smpp_pdu.specs.declared.status.CommandStatus.{CommandStatus}
use Rattle.sms_intake.specs.declared.smpp_intake.Judged.{Judged}
use Rattle.sms_intake.specs.declared.submission.CentreAccount.{CentreAccount}
use Rattle.sms_intake.specs.SmppIntake.{from_pdu, judged_in, refusal_in, submission_for}

pub judgement_refuses : (account : CentreAccount) (now : ℕ) (m : Message) → refusal_in (judged_in account now m) ≡ refusal_in (from_pdu account now m)
unfolding from_pdu
judgement_refuses account now m = by (judged_in account now m) where
  by : (r : Result Judged CommandStatus) → refusal_in r ≡ refusal_in (r >>= (λ (j : Judged). Ok (submission_for account m j)))
  by (Ok j) = refl
  by (Err status) = refl
