use Rattle.std.proofs.Common.{◌≡◌, drop}
use Rattle.sms_intake.specs.HandsetIntake.{is_of_account}
use Rattle.sms_intake.proofs.handset_intake.is_of_account.Given as goal

abbrev pub invariant-loop-account : goal.invariant-loop-account
invariant-loop-account l = is_of_account l.digits (drop l.account-index l.accounts) ≡ is_of_account l.digits l.accounts
