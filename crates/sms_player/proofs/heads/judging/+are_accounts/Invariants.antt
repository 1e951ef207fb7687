use Rattle.std.proofs.Common.{length}
use Rattle.sms_player.proofs.heads.judging.+are_accounts.Given as goal

abbrev pub decreases-are_accounts : goal.decreases-are_accounts
decreases-are_accounts l = length l.accounts.now
