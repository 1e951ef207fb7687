use Rattle.smpp_session.proofs.Promises.{told_over}
use Rattle.smpp_session.proofs.laws.owner_knows_whether_an_account_is_bound.Goals as goal

pub returns : goal.returns
returns c = λ accounts calls octets. told_over accounts calls octets
