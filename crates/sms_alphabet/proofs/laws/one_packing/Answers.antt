use Rattle.sms_alphabet.proofs.RoundTrip.{one_packing}
use Rattle.sms_alphabet.proofs.laws.one_packing.Goals as goal

pub returns : goal.returns
returns c = one_packing
