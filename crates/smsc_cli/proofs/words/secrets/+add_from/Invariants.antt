use Rattle.std.proofs.Common.{length}
use Rattle.smsc_cli.proofs.words.secrets.+add_from.Given as goal

abbrev pub decreases-add_from : goal.decreases-add_from
decreases-add_from l = length l.file.now
