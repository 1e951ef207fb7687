use Rattle.std.proofs.Common.{length}
use Rattle.smsc_endpoint.proofs.esme.+find.Given as goal

abbrev pub decreases-find : goal.decreases-find
decreases-find l = length l.receipts.now
