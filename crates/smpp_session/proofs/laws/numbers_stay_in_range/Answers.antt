use Rattle.smpp_session.proofs.Promises.{number_is_preserved}
use Rattle.smpp_session.proofs.laws.numbers_stay_in_range.Goals as goal

pub returns : goal.returns
returns c = λ accounts calls. number_is_preserved accounts calls
