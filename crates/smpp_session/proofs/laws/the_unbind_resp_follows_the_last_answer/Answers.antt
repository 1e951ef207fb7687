use Rattle.std.proofs.Common.{[]}
use Rattle.smpp_session.proofs.Owing.{replies_finish}
use Rattle.smpp_session.proofs.laws.the_unbind_resp_follows_the_last_answer.Goals as goal

pub returns : goal.returns
returns c = λ session reply replies number state unbind owed. replies_finish replies session [] reply number state unbind owed
