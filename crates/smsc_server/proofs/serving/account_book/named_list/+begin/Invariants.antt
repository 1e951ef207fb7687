use Rattle.std.proofs.Common.{length}
use Rattle.smsc_server.proofs.serving.account_book.named_list.+begin.Given as goal

abbrev pub decreases-begin : goal.decreases-begin
decreases-begin l = length l.others.now
