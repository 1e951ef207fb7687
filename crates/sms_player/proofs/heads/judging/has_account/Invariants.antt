use Rattle.std.proofs.Common.{◌≡◌, drop}
use Rattle.sms_play.specs.Setups.{has_account}
use Rattle.sms_player.proofs.heads.judging.has_account.Given as goal

abbrev pub invariant-loop-account : goal.invariant-loop-account
invariant-loop-account l = has_account l.name (drop l.account-index l.accounts) ≡ has_account l.name l.accounts
