use Rattle.smsc_endpoint.proofs.Refusals.{refusal_noted}
use Rattle.smsc_endpoint.proofs.laws.a_refused_submit_is_noted.Goals as goal

pub returns : goal.returns
returns c = refusal_noted
