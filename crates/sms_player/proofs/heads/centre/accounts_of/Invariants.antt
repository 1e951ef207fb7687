use Rattle.std.proofs.Common.{◌≡◌, ◌++◌, drop, true}
use Rattle.sms_play.specs.Setups.{accounts_of, are_accounts}
use Rattle.sms_player.proofs.heads.centre.accounts_of.Given as goal

abbrev pub invariant-loop-account : goal.invariant-loop-account
invariant-loop-account l = record {
  made : l.all ++ accounts_of (drop l.account-index l.accounts) ≡ accounts_of l.accounts;
  good : are_accounts (drop l.account-index l.accounts) ≡ true;
}
