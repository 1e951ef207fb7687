use Rattle.sms_link.proofs.framing.Streams.{one_cut}
use Rattle.sms_link.proofs.framing.laws.stream_has_one_cut.Goals as goal

pub returns : goal.returns
returns c = one_cut
