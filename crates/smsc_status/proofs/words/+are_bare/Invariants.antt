use Rattle.std.proofs.Common.{length}
use Rattle.smsc_status.proofs.words.+are_bare.Given as goal

abbrev pub decreases-are_bare : goal.decreases-are_bare
decreases-are_bare l = length l.text.now
