use Rattle.std.proofs.Common.{None, Some, arith, sym}
use Rattle.std.proofs.lemmas.Str.Pattern.{strip_suffix_char}
use Rattle.smsc_cli.proofs.words.Lines.{bare_already, stripped}
use Rattle.smsc_cli.proofs.words.accounts.bare.Goals as goal

pub returns-in-Some : goal.returns-in-Some
returns-in-Some c = stripped c.args.line.now c.in-Some.bare (strip_suffix_char 13 c.args.line.now (Some c.in-Some.bare) c.in-Some.ensures.cases (omega arith))

pub returns-in-None : goal.returns-in-None
returns-in-None c = sym (bare_already c.args.line.now (strip_suffix_char 13 c.args.line.now None c.in-None.ensures.cases (omega arith)))
