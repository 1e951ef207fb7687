use Rattle.sms_base.proofs.HandsetNumbers.{text_is_short, text_has_no_nul}
use Rattle.sms_base.proofs.laws.address_texts_are_short.Goals as goal

pub returns-clause-short : goal.returns-clause-short
returns-clause-short c = text_is_short

pub returns-clause-no_nul : goal.returns-clause-no_nul
returns-clause-no_nul c = text_has_no_nul
