use Rattle.sms_alphabet.proofs.Elements.{written_is_read}
use Rattle.sms_alphabet.proofs.laws.written_header_is_read.Goals as goal

pub returns : goal.returns
returns c = written_is_read
