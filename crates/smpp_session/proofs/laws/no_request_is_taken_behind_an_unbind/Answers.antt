use Rattle.smpp_session.proofs.Owing.{request_refused}
use Rattle.smpp_session.proofs.laws.no_request_is_taken_behind_an_unbind.Goals as goal

pub returns : goal.returns
returns c = request_refused
