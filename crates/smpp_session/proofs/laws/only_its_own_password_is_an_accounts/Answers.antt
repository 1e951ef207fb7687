use Rattle.smpp_session.proofs.Owners.{is_owners}
use Rattle.smpp_session.proofs.laws.only_its_own_password_is_an_accounts.Goals as goal

pub returns : goal.returns
returns c = is_owners
