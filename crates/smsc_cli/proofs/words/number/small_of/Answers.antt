use Rattle.std.proofs.Common.{◌≡◌, None, Some, arith, ap, sym, ◌∙◌}
use Rattle.std.specs.Result.{result_ok}
use Rattle.smsc_cli.proofs.words.Decimals.{if_none, parsed}
use Rattle.smsc_cli.proofs.words.number.small_of.Goals as goal

pub returns-in_err-number-clause-none : goal.returns-in_err-number-clause-none
returns-in_err-number-clause-none c = if_none c.from_residual.result (λ n s.
    let few = s.few in
    let read : c.ok.result ≡ Some n = c.ok.ensures.value ∙ ap result_ok (parsed 8 n c.args.text.now c.parse.result c.parse.ensures.value.0 s.from.count (omega (arith, few))) in
    let gone : None ≡ Some n = sym c.in_err-number.was ∙ read in
    absurd cc)
