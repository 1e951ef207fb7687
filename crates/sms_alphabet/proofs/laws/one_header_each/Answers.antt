use Rattle.sms_alphabet.proofs.Headers.{one_header}
use Rattle.sms_alphabet.proofs.laws.one_header_each.Goals as goal

pub returns : goal.returns
returns c = one_header
