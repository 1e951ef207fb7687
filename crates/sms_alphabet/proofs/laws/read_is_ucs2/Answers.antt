use Rattle.sms_alphabet.proofs.Ucs2Laws.{read_is_ucs2}
use Rattle.sms_alphabet.proofs.laws.read_is_ucs2.Goals as goal

pub returns : goal.returns
returns c = read_is_ucs2
