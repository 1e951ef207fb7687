use Rattle.smsc_cli.proofs.words.SecretLines.{bad_number, bad_secret, no_colon, refused}
use Rattle.smsc_cli.proofs.words.secrets.secret_of.Goals as goal

pub returns-in_err-before-clause-only : goal.returns-in_err-before-clause-only
returns-in_err-before-clause-only c = refused c.from_residual.result c.args.text.now (λ n s. no_colon c.args.text.now n s c.in_err-before.ensures.none)

pub returns-in_err-number-clause-only : goal.returns-in_err-number-clause-only
returns-in_err-number-clause-only c = refused c.from_residual-in_err-number.result c.args.text.now
    (bad_number c.args.text.now c.in_ok-before.before.now c.in_ok-before.behind.now c.in_ok-before.ensures.cut c.in_err-number.ensures.none)

pub returns-in_err-secret-clause-only : goal.returns-in_err-secret-clause-only
returns-in_err-secret-clause-only c = refused c.from_residual-in_err-secret.result c.args.text.now
    (bad_secret c.args.text.now c.in_ok-before.before.now c.in_ok-before.behind.now c.in_ok-before.ensures.cut c.in_err-secret.ensures.none)
