use Rattle.std.proofs.Common.{arith}
use Rattle.std.proofs.lemmas.Str.Pattern.{split_parts}
use Rattle.smsc_cli.proofs.words.Cuts.{cut_none, cut_some}
use Rattle.smsc_cli.proofs.words.accounts.at_line_feed.Goals as goal

pub returns-clause-cut : goal.returns-clause-cut
returns-clause-cut c = cut_some 10 c.args.text.now c.split_once.result (split_parts 10 c.args.text.now c.split_once.result c.split_once.ensures.cases (omega arith))

pub returns-clause-none : goal.returns-clause-none
returns-clause-none c = cut_none 10 c.args.text.now c.split_once.result (split_parts 10 c.args.text.now c.split_once.result c.split_once.ensures.cases (omega arith))
