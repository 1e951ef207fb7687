use Rattle.sms_alphabet.proofs.Elements.{read_was_written}
use Rattle.sms_alphabet.proofs.laws.read_header_was_written.Goals as goal

pub returns : goal.returns
returns c = read_was_written
