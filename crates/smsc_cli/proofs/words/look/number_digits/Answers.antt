use Rattle.smsc_cli.proofs.words.Parties.{no_number}
use Rattle.smsc_cli.proofs.words.look.number_digits.Goals as goal

pub returns-in-Err-clause-none : goal.returns-in-Err-clause-none
returns-in-Err-clause-none c = λ h. no_number c.args.text.now _ c.in-Err.ensures.only h
