use Rattle.std.proofs.Common.{ℕ, List, sym, ◌∙◌, ap}
use Rattle.sms_intake.specs.declared.submission.CentreAccount.{CentreAccount}
use Rattle.sms_centre_spec.specs.Requests.{account_at}
use Rattle.sms_centre_events.proofs.Places.{account_got, account_past}
use Rattle.sms_centre_events.proofs.accounts.account_at.Goals as goal

pub returns-then-place-accounts : goal.returns-then-place-accounts
returns-then-place-accounts c =
    sym (ap (λ (n : ℕ). account_at n c.args.setup.now.accounts) (sym c.from-place.ensures) ∙ ap (λ (xs : List CentreAccount). account_at c.from-place.result xs) (sym c.as_slice-accounts.ensures)
    ∙ account_past c.from-place.result c.as_slice-accounts.result.now c.if-place-accounts.true)

pub returns : goal.returns
returns c =
    sym (ap (λ (n : ℕ). account_at n c.args.setup.now.accounts) (sym c.from-place.ensures) ∙ ap (λ (xs : List CentreAccount). account_at c.from-place.result xs) (sym c.as_slice-accounts.ensures)
    ∙ account_got c.from-place.result c.as_slice-accounts.result.now c.index-accounts-place.result c.if-place-accounts.false c.index-accounts-place.is)
