use Rattle.std.proofs.Common.{length}
use Rattle.smsc_cli.proofs.words.option.+offering.Given as goal

abbrev pub decreases-offering : goal.decreases-offering
decreases-offering l = length l.offers.now
