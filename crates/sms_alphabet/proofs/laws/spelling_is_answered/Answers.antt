use Rattle.sms_alphabet.proofs.Spellings.{spelling_spelled, spelled_spells}
use Rattle.sms_alphabet.proofs.laws.spelling_is_answered.Goals as goal

pub returns : goal.returns
returns c = record { again = spelling_spelled; takes = spelled_spells }
