use Rattle.sms_base.proofs.Alphabets.{one_code}
use Rattle.sms_alphabet.proofs.laws.one_code.Goals as goal

pub returns : goal.returns
returns c = one_code
