use Rattle.smpp_session.proofs.Owing.{closed_owes_none, opened_owes}
use Rattle.smpp_session.proofs.laws.each_request_is_owed_its_answer.Goals as goal

pub returns-clause-owed : goal.returns-clause-owed
returns-clause-owed c = λ accounts calls on. (opened_owes accounts calls on).owed

pub returns-clause-closed : goal.returns-clause-closed
returns-clause-closed c = closed_owes_none
