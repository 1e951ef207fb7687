use Rattle.sms_alphabet.proofs.Pieces.{reading_again, reading_takes}
use Rattle.sms_alphabet.proofs.laws.pieces_are_read.Goals as goal

pub returns : goal.returns
returns c = record { again = reading_again; takes = reading_takes }
