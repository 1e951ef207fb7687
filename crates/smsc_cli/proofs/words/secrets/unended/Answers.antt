use Rattle.std.proofs.Common.{None, Some, arith, sym}
use Rattle.std.proofs.lemmas.Str.Pattern.{strip_suffix_char}
use Rattle.smsc_cli.proofs.words.SecretLines.{stripped, unended_already}
use Rattle.smsc_cli.proofs.words.secrets.unended.Goals as goal

pub returns-in-Some : goal.returns-in-Some
returns-in-Some c = stripped c.args.text.now c.in-Some.line (strip_suffix_char 10 c.args.text.now (Some c.in-Some.line) c.in-Some.ensures.cases (omega arith))

pub returns-in-None : goal.returns-in-None
returns-in-None c = sym (unended_already c.args.text.now (strip_suffix_char 10 c.args.text.now None c.in-None.ensures.cases (omega arith)))
