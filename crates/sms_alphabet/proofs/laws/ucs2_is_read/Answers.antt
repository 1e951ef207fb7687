use Rattle.sms_alphabet.proofs.Ucs2Laws.{ucs2_is_read}
use Rattle.sms_alphabet.proofs.laws.ucs2_is_read.Goals as goal

pub returns : goal.returns
returns c = ucs2_is_read
