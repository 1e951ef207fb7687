use Rattle.std.proofs.Common.{Err, ap, map}
use Rattle.smsc_cli.proofs.words.Cuts.{none_stops}
use Rattle.smsc_cli.proofs.words.accounts.accounts_of.Goals as goal

pub returns-clause-bad : goal.returns-clause-bad
returns-clause-bad c = λ e. none_stops (map (λ text. text.now) c.args.texts.now) c.new-accounts.result.items c.add_all.new.accounts.items c.new-accounts.ensures.items (c.in-Err.ensures.bad (ap Err e))
