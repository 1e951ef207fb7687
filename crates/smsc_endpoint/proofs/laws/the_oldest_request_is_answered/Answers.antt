use Rattle.smsc_endpoint.proofs.EsmeRuns.{oldest_answered}
use Rattle.smsc_endpoint.proofs.laws.the_oldest_request_is_answered.Goals as goal

pub returns : goal.returns
returns c = λ e request requests answer waits bound is_open. oldest_answered e request requests answer waits bound is_open
