use Rattle.std.proofs.Common.{arith, ap, ◌∙◌}
use Rattle.std.specs.Result.{result_ok}
use Rattle.smsc_cli.proofs.words.Decimals.{parsed}
use Rattle.smsc_cli.proofs.words.number.count_of.Goals as goal

pub returns-clause-only : goal.returns-clause-only
returns-clause-only c = λ n s. c.ok.ensures.value ∙ ap result_ok (parsed 32 n c.args.text.now c.parse.result c.parse.ensures.value.0 s.from.count (let few = s.few in omega (arith, few)))
