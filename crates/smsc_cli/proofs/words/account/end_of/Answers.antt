use Rattle.std.proofs.lemmas.Option.{none-some}
use Rattle.smsc_cli.proofs.words.Cuts.{bad_limit, bad_number, bare_end, no_end}
use Rattle.smsc_cli.proofs.words.account.end_of.Goals as goal

pub returns-in_err-address-in-Some-clause-only : goal.returns-in_err-address-in-Some-clause-only
returns-in_err-address-in-Some-clause-only c = no_end c.from_residual.result c.args.text.now
    (bad_number c.args.text.now c.in-Some.number.now c.in-Some.limit.now c.in-Some.ensures.cut (λ a s. none-some a (c.in_err-address-in-Some.ensures.only a s)))

pub returns-in_err-sessions-in-Some-clause-only : goal.returns-in_err-sessions-in-Some-clause-only
returns-in_err-sessions-in-Some-clause-only c = no_end c.from_residual-in_err-sessions-in-Some.result c.args.text.now
    (bad_limit c.args.text.now c.in-Some.number.now c.in-Some.limit.now c.in-Some.ensures.cut (λ k s. none-some k (c.in_err-sessions-in-Some.ensures.only k s)))

pub returns-in_err-address-in-None-clause-only : goal.returns-in_err-address-in-None-clause-only
returns-in_err-address-in-None-clause-only c = no_end c.from_residual-in_err-address-in-None.result c.args.text.now
    (bare_end c.args.text.now c.in-None.ensures.none (λ a s. none-some a (c.in_err-address-in-None.ensures.only a s)))
