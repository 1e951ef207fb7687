use Rattle.std.proofs.Common.{◌≡◌, None, Some, arith, ap, sym, ◌∙◌}
use Rattle.std.specs.Result.{result_ok}
use Rattle.smsc_cli.proofs.words.Decimals.{parsed}
use Rattle.smsc_cli.proofs.words.sim.moment_of.Goals as goal

pub returns-in_err-seconds-clause-only : goal.returns-in_err-seconds-clause-only
returns-in_err-seconds-clause-only c = λ n s.
    let few = s.few in
    let read : c.ok.result ≡ Some n = c.ok.ensures.value ∙ ap result_ok (parsed 64 n c.args.text.now c.parse.result c.parse.ensures.value.0 s.from.count (omega (arith, few))) in
    let gone : None ≡ Some n = sym c.in_err-seconds.was ∙ read in
    absurd cc
