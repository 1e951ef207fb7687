use Rattle.std.proofs.Common.{length}
use Rattle.smsc_cli.proofs.words.account_tables.+add_values.Given as goal

abbrev pub decreases-add_values : goal.decreases-add_values
decreases-add_values l = length l.values.now
