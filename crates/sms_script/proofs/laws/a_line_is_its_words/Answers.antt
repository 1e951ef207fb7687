use Rattle.sms_script.proofs.Cuts.{spaced_words, words_spaced}
use Rattle.sms_script.proofs.laws.a_line_is_its_words.Goals as goal

pub returns-clause-line : goal.returns-clause-line
returns-clause-line c = spaced_words

pub returns-clause-words : goal.returns-clause-words
returns-clause-words c = words_spaced
