use Rattle.sms_alphabet.proofs.Pieces.{reading_again, spelling_is_reading}
use Rattle.sms_alphabet.proofs.laws.spelling_is_read.Goals as goal

pub returns : goal.returns
returns c = λ septets text s. reading_again septets text (spelling_is_reading septets text s)
