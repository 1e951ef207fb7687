use Rattle.std.proofs.Common.{arith}
use Rattle.sms_player.proofs.heads.Beginnings.{account_good, few_digits}
use Rattle.sms_player.proofs.heads.centre.accounts_of.Goals as goal

pub account_of-requires : goal.account_of-requires
account_of-requires c = few_digits c.account-item.result.number (account_good c.args.accounts.now c.loop-account.account-index c.account-item.result (omega (arith, c.loop-account-test.true)) c.account-item.is c.loop-account.invariant.good).0
