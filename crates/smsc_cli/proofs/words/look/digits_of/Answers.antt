use Rattle.smsc_cli.proofs.words.Parties.{no_party}
use Rattle.smsc_cli.proofs.words.look.digits_of.Goals as goal

pub returns-in-None-clause-none : goal.returns-in-None-clause-none
returns-in-None-clause-none c = no_party c.args.text.now c.name_digits.result c.in-None.ensures.none c.name_digits.ensures.none
