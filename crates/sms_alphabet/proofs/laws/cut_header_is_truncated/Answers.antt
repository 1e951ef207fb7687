use Rattle.sms_alphabet.proofs.Headers.{cut_header}
use Rattle.sms_alphabet.proofs.laws.cut_header_is_truncated.Goals as goal

pub returns : goal.returns
returns c = cut_header
