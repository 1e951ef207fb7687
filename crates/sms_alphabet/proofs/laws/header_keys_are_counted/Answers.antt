use Rattle.sms_alphabet.proofs.HeaderKeys.{header_counts}
use Rattle.sms_alphabet.proofs.laws.header_keys_are_counted.Goals as goal

pub returns : goal.returns
returns c = header_counts
