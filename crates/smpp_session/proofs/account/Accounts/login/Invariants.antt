use Rattle.std.proofs.Common.{◌≡◌, drop}
use Rattle.smpp_session.specs.Logins.{login}
use Rattle.smpp_session.proofs.account.Accounts.login.Given as goal

abbrev pub invariant-loop-place : goal.invariant-loop-place
invariant-loop-place l = login 0 l.name l.password l.accounts ≡ login l.place l.name l.password (drop l.place l.accounts)
