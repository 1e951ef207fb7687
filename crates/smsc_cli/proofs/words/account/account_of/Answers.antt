use Rattle.smsc_cli.proofs.words.Cuts.{bad_end, bad_name, bad_password, no_colon, one_colon, refused}
use Rattle.smsc_cli.proofs.words.account.account_of.Goals as goal

pub returns-in_err-before-clause-only : goal.returns-in_err-before-clause-only
returns-in_err-before-clause-only c = refused c.from_residual.result c.args.text.now (λ n p a k. no_colon c.args.text.now n p a k c.in_err-before.ensures.none)

pub returns-in_err-between-clause-only : goal.returns-in_err-between-clause-only
returns-in_err-between-clause-only c = refused c.from_residual-in_err-between.result c.args.text.now
    (λ n p a k. one_colon c.args.text.now c.in_ok-before.before.now c.in_ok-before.rest.now c.in_ok-before.ensures.cut n p a k c.in_err-between.ensures.none)

pub returns-in_err-name-clause-only : goal.returns-in_err-name-clause-only
returns-in_err-name-clause-only c = refused c.from_residual-in_err-name.result c.args.text.now
    (bad_name c.args.text.now c.in_ok-before.before.now c.in_ok-before.rest.now c.in_ok-before.ensures.cut c.in_ok-between.between.now c.in_ok-between.end.now c.in_ok-between.ensures.cut c.in_err-name.ensures.none)

pub returns-in_err-password-clause-only : goal.returns-in_err-password-clause-only
returns-in_err-password-clause-only c = refused c.from_residual-in_err-password.result c.args.text.now
    (bad_password c.args.text.now c.in_ok-before.before.now c.in_ok-before.rest.now c.in_ok-before.ensures.cut c.in_ok-between.between.now c.in_ok-between.end.now c.in_ok-between.ensures.cut c.in_err-password.ensures.none)

pub returns-in_err-address-clause-only : goal.returns-in_err-address-clause-only
returns-in_err-address-clause-only c = refused c.from_residual-in_err-address.result c.args.text.now
    (bad_end c.args.text.now c.in_ok-before.before.now c.in_ok-before.rest.now c.in_ok-before.ensures.cut c.in_ok-between.between.now c.in_ok-between.end.now c.in_ok-between.ensures.cut
    c.in_err-address.ensures.only)
