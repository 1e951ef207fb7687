use Rattle.smpp_session.proofs.Promises.{opened_preserved}
use Rattle.smpp_session.proofs.laws.passed_up_reads_as_its_command.Goals as goal

pub returns : goal.returns
returns c = λ accounts calls. (opened_preserved accounts calls).reads
