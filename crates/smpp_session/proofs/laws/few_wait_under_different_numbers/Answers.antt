use Rattle.smpp_session.proofs.Promises.{opened_preserved}
use Rattle.smpp_session.proofs.laws.few_wait_under_different_numbers.Goals as goal

pub returns : goal.returns
returns c = λ accounts calls. (opened_preserved accounts calls).waiting
