use Rattle.std.proofs.Common.{length}
use Rattle.smsc_cli.proofs.words.several.+is_new.Given as goal

abbrev pub decreases-is_new : goal.decreases-is_new
decreases-is_new g l = length l.some.now
