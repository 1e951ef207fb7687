use Rattle.std.proofs.Common.{None, Some, arith}
use Rattle.std.proofs.lemmas.Str.Pattern.{strip_suffix_char}
use Rattle.smsc_cli.proofs.words.SourceTexts.{not_starred, starred}
use Rattle.smsc_cli.proofs.words.account_tables.unstarred.Goals as goal

pub returns-in-Some : goal.returns-in-Some
returns-in-Some c = starred c.args.text.now c.in-Some.front (strip_suffix_char 42 c.args.text.now (Some c.in-Some.front) c.in-Some.ensures.cases (omega arith))

pub returns-in-None : goal.returns-in-None
returns-in-None c = not_starred c.args.text.now (strip_suffix_char 42 c.args.text.now None c.in-None.ensures.cases (omega arith))
