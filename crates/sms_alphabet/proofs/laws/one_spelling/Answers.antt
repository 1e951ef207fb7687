use Rattle.sms_base.proofs.Alphabets.{one_spelling}
use Rattle.sms_alphabet.proofs.laws.one_spelling.Goals as goal

pub returns : goal.returns
returns c = one_spelling
