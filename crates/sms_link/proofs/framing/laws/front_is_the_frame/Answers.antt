use Rattle.sms_link.proofs.framing.Streams.{front_found}
use Rattle.sms_link.proofs.framing.laws.front_is_the_frame.Goals as goal

pub returns-clause-found : goal.returns-clause-found
returns-clause-found c = front_found
